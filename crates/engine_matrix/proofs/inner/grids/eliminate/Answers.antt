-- `inner::grids::eliminate` meets its contract. The invariant: what is left to do is what there was to do.
use mathlib.Core.Path.{refl, ◌∙◌, sym}
use native.Mathlib.Omega.{arith}
use Rattle.std.proofs.lemmas.Result.{err_from_is_err_and}
use Rattle.engine_matrix.specs.Machine.{colsIn}
use Rattle.engine_matrix.proofs.Steps.{at-end}
use Rattle.engine_matrix.proofs.inner.grids.eliminate.Goals as goal

pub rows-init : goal.rows-init
rows-init c = (omega arith, refl)

pub step-requires : goal.step-requires
step-requires c = record { left = omega (arith, c.rows.invariant.0, c.rows-test.true) }

pub returns-in_err-q : goal.returns-in_err-q
returns-in_err-q c =
    let p = err_from_is_err_and c.from_residual.result c.from_residual.ensures.1 in
    rw (p.1, p.2) (sym (sym c.rows.invariant.1 ∙ c.in_err-q.ensures))

pub rows-preserved : goal.rows-preserved
rows-preserved c = let w = c.in_ok-q.ensures in (omega (arith, w.0, c.rows.invariant.0), w.1 ∙ c.rows.invariant.1)

pub returns : goal.returns
returns c = sym (at-end (colsIn c.args.k) c.rows.q (omega (arith, c.rows.invariant.0, c.rows-test.false))) ∙ c.rows.invariant.1
