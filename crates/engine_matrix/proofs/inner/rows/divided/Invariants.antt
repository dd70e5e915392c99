use Rattle.rules.specs.Base.{bounded}
use Rattle.rules.specs.Exponents.{neg, quotient}
use Rattle.exponents.specs.Answers.{expOf}
use Rattle.engine_matrix.specs.Told.{row_in}
use Rattle.engine_matrix.proofs.Loops.{Sofar}
use Rattle.engine_matrix.proofs.inner.rows.divided.Given as goal

abbrev pub invariant-loop-j : goal.invariant-loop-j
invariant-loop-j l = Sofar (λ e. quotient bounded (neg e) (expOf l.k)) (row_in l.r) l.j (row_in l.out)
