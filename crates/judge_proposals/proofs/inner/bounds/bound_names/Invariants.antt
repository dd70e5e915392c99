use mathlib.Core.List.{List, map}
use Prim.Native.Nat.{ℕ}
use lib.ListN.{take}
use Rattle.rules.specs.Trees.{Open}
use Rattle.rules.specs.Writing.{word_of}
use Rattle.queries.specs.Marks.{Has}
use Rattle.judge_proposals.specs.Bounds.{BoundsThere}
use Rattle.judge_proposals.proofs.inner.bounds.bound_names.Given as goal

-- the first i names are in it
abbrev pub invariant-loop-i : goal.invariant-loop-i
invariant-loop-i l = (pool table : List ℕ) (os : List (Open ℕ)) → BoundsThere pool table l.s os → Has l.found (take l.i (map word_of os))
