-- `inner::rows::put_in` meets its contract.
use mathlib.Core.Path.{ap, ◌∙◌, sym}
use lib.ListN.{set}
use Rattle.std.proofs.lemmas.Result.{err_from_is_err_and}
use Rattle.rules.specs.Base.{Got, ◌>>=◌}
use Rattle.rules.specs.Exponents.{Exp, nought}
use Rattle.laws.proofs.Ranges.{nought-good}
use Rattle.rules.specs.Elimination.{Row, timesRow, plusRow, putInRow}
use Rattle.engine_matrix.specs.Told.{row_in}
use Rattle.engine_matrix.proofs.inner.rows.put_in.Goals as goal

pub times_row-requires : goal.times_row-requires
times_row-requires c = record { power = rw c.power_at.ensures (c.args.r.good c.args.c) }

pub returns-in_err-m : goal.returns-in_err-m
unfolding putInRow
returns-in_err-m c =
    let p = err_from_is_err_and c.from_residual.result c.from_residual.ensures.1 in
    let times = ap (λ (k : Exp). timesRow k (row_in c.args.w)) (sym c.power_at.ensures) ∙ sym c.in_err-m.ensures in
    rw (p.1, p.2) (sym (ap (λ (m : Got Row). m >>= λ m. plusRow (set (row_in c.args.r) c.args.c nought) m) times))

pub with_power-requires-clause-power : goal.with_power-requires-clause-power
with_power-requires-clause-power c = nought-good

pub returns : goal.returns
unfolding putInRow
returns c =
    let times = ap (λ (k : Exp). timesRow k (row_in c.args.w)) (sym c.power_at.ensures) ∙ sym c.in_ok-m.ensures in
    c.plus_row.ensures
    ∙ ap (λ (r : Row). plusRow r (row_in c.in_ok-m.m)) c.with_power.ensures
    ∙ sym (ap (λ (m : Got Row). m >>= λ m. plusRow (set (row_in c.args.r) c.args.c nought) m) times)
