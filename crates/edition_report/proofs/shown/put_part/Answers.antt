-- `put_part` meets its contract: piece by piece.
use Rattle.rules.specs.Reports.{partShown}
use Rattle.text_spell.proofs.Sinks.{cut, then}
use Rattle.edition_report.proofs.shown.put_part.Goals as goal

pub returns-in_err-put : goal.returns-in_err-put
unfolding partShown
returns-in_err-put g c = cut _ _ c.from_residual.ensures.0 c.in_err-put.ensures

pub returns-in_err-put-2 : goal.returns-in_err-put-2
unfolding partShown
returns-in_err-put-2 g c = then _ c.in_ok-put.ensures (cut _ _ c.from_residual-in_err-put-2.ensures.0 (rw c.dots.ensures at c.in_err-put-2.ensures))

pub returns-in_err-put_shown : goal.returns-in_err-put_shown
unfolding partShown
returns-in_err-put_shown g c = then _ c.in_ok-put.ensures
    (then _ (rw c.dots.ensures at c.in_ok-put-2.ensures)
    (cut _ _ c.from_residual-in_err-put_shown.ensures.0 (rw c.part.ensures at c.in_err-put_shown.ensures)))

pub returns : goal.returns
unfolding partShown
returns g c = then _ c.in_ok-put.ensures
    (then _ (rw c.dots.ensures at c.in_ok-put-2.ensures) (then _ (rw c.part.ensures at c.in_ok-put_shown.ensures) c.put-3.ensures))
