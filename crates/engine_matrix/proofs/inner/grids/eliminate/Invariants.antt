use mathlib.Core.Path.{◌≡◌}
use Prim.Native.Nat.{◌+◌}
use Rattle.engine_matrix.specs.Machine.{colsIn, rest}
use Rattle.engine_matrix.proofs.inner.grids.eliminate.Given as goal

abbrev pub invariant-rows : goal.invariant-rows
invariant-rows l = (l.q.left + l._i ≡ l.fn.m.left) × (rest (colsIn l.k) l.q ≡ rest (colsIn l.k) l.fn.m)
