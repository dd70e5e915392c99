use mathlib.Core.Path.{◌≡◌}
use Prim.Native.Nat.{ℕ}
use mathlib.Core.List.{List, ◌++◌}
use Rattle.queries.specs.Scans.{choose, opensIn}
use Rattle.queries.specs.Marks.{Has}
use Rattle.queries.proofs.name_set.NameSet.extend.Given as goal

abbrev pub invariant-loop-i : goal.invariant-loop-i
invariant-loop-i l = (xs : List ℕ) → Has l.initial.self xs → (ys : List ℕ) × Has l.self ys
    × (ys ++ choose l.k (opensIn l.s l.i l.e) ≡ xs ++ choose l.k (opensIn l.s l.b l.e))
