use Rattle.engine_matrix.specs.Told.{row_in}
use Rattle.engine_matrix.specs.Machine.{colsIn}
use Rattle.engine.proofs.Factors.{Putting}
use Rattle.engine.proofs.inner.put_factors.Given as goal

abbrev pub invariant-loop-j : goal.invariant-loop-j
invariant-loop-j l = Putting l.fn.out l.out l.n l.j (colsIn l.k) (row_in l.r)
