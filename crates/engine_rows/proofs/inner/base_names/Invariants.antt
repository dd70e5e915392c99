use mathlib.Core.Path.{◌≡◌}
use mathlib.Core.List.{List, ◌++◌}
use Prim.Native.Nat.{ℕ}
use Rattle.queries.specs.Marks.{Has}
use Rattle.engine_rows.specs.Columns.{basesIn}
use Rattle.engine_rows.proofs.inner.base_names.Given as goal

abbrev pub invariant-loop-i : goal.invariant-loop-i
invariant-loop-i l = (ys : List ℕ) × Has l.found ys × (ys ++ basesIn l.s l.i l.e ≡ basesIn l.s 0 l.e)
