use Rattle.rules.specs.Base.{bounded}
use Rattle.rules.specs.Exponents.{sum}
use Rattle.engine_matrix.specs.Told.{row_in}
use Rattle.engine_matrix.proofs.Loops.{Sofar, pairUp}
use Rattle.engine_matrix.proofs.inner.rows.plus_row.Given as goal

abbrev pub invariant-loop-j : goal.invariant-loop-j
invariant-loop-j l = Sofar (λ p. sum bounded p.0 p.1) (pairUp (row_in l.a) (row_in l.b)) l.j (row_in l.out)
