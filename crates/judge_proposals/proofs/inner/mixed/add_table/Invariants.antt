use mathlib.Core.List.{List, ◌++◌}
use Prim.Native.Nat.{ℕ}
use Rattle.rules.specs.Names.{Bytes}
use Rattle.rules.specs.Trees.{Binding}
use Rattle.queries.specs.Marks.{Has}
use Rattle.queries.specs.Scans.{choose}
use Rattle.judge_proposals.specs.Mixed.{opensBelow, Table}
use Rattle.judge_proposals.proofs.inner.mixed.add_table.Given as goal

-- the names of the variables below x are marked
abbrev pub invariant-loop-x : goal.invariant-loop-x
invariant-loop-x l =
    (bs : List (Binding ℕ)) (names : List Bytes) (xs : List ℕ) → Table l.types l.places names bs → Has l.initial.found xs →
    Has l.found (xs ++ choose l.k (opensBelow names bs l.x))
