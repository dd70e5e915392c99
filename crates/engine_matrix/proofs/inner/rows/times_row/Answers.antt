-- `inner::rows::times_row` meets its contract. The invariant: the products so far, and those to come, are all of them.
use mathlib.Core.Path.{◌≡◌, ap, ◌∙◌, sym}
use mathlib.Core.Bool.{true}
use native.Mathlib.Omega.{arith}
use Rattle.std.proofs.lemmas.Result.{err_from_is_err_and}
use Rattle.rules.specs.Base.{bounded}
use Rattle.rules.specs.Exponents.{Exp, nought, goodExp, times}
use Rattle.laws.proofs.Ranges.{times-good}
use Rattle.exponents.specs.Answers.{expOf}
use Rattle.rules.specs.Elimination.{timesRow}
use Rattle.engine_matrix.specs.Told.{row_in}
use Rattle.engine_matrix.proofs.Loops.{start, onward, stop, all-done}
use Rattle.engine_matrix.proofs.inner.rows.times_row.Goals as goal

pub loop-j-init : goal.loop-j-init
loop-j-init c = start _ _ (row_in c.args.w)

pub product_of-requires : goal.product_of-requires
product_of-requires c = (rw c.power_at.ensures (c.args.w.good c.loop-j.j), c.requires.power)

pub returns-in_err-e : goal.returns-in_err-e
unfolding timesRow
returns-in_err-e c =
    let p = err_from_is_err_and c.from_residual.result c.from_residual.ensures.1 in
    let stepped = ap (λ (e : Exp). times bounded e (expOf c.args.k)) (sym c.power_at.ensures) ∙ sym c.in_err-e.ensures in
    rw (p.1, p.2) (sym (stop _ (row_in c.args.w) c.loop-j.j nought (omega (arith, c.args.w.long)) (row_in c.loop-j.out) _ c.loop-j.invariant stepped))

pub with_power-out-requires : goal.with_power-out-requires
with_power-out-requires c =
    let of_row : goodExp (expOf c.power_at.result) ≡ true = rw c.power_at.ensures (c.args.w.good c.loop-j.j) in
    record { column = omega arith; power = (times-good _ _ of_row c.requires.power).holds _ (sym c.in_ok-e.ensures) }

pub loop-j-preserved : goal.loop-j-preserved
loop-j-preserved c =
    let stepped = ap (λ (e : Exp). times bounded e (expOf c.args.k)) (sym c.power_at.ensures) ∙ sym c.in_ok-e.ensures in
    onward _ (row_in c.args.w) c.loop-j.j nought (omega (arith, c.args.w.long)) (row_in c.loop-j.out) (row_in c.with_power-out.result) _ c.loop-j.invariant
    (omega (arith, c.loop-j.out.long)) stepped c.with_power-out.ensures

pub returns : goal.returns
unfolding timesRow
returns c =
    sym (all-done _ (row_in c.args.w) c.loop-j.j (row_in c.loop-j.out) c.loop-j.invariant (omega (arith, c.args.w.long)) (omega (arith, c.loop-j.out.long)))
