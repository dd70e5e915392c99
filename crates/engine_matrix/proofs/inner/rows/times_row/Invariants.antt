use Rattle.rules.specs.Base.{bounded}
use Rattle.rules.specs.Exponents.{times}
use Rattle.exponents.specs.Answers.{expOf}
use Rattle.engine_matrix.specs.Told.{row_in}
use Rattle.engine_matrix.proofs.Loops.{Sofar}
use Rattle.engine_matrix.proofs.inner.rows.times_row.Given as goal

abbrev pub invariant-loop-j : goal.invariant-loop-j
invariant-loop-j l = Sofar (λ e. times bounded e (expOf l.k)) (row_in l.w) l.j (row_in l.out)
