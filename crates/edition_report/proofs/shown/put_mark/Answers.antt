-- `put_mark` meets its contract: piece by piece.
use Rattle.rules.specs.Reports.{markShown}
use Rattle.text_spell.proofs.Sinks.{cut, then}
use Rattle.edition_report.proofs.shown.put_mark.Goals as goal

pub returns-in_err-put : goal.returns-in_err-put
unfolding markShown
returns-in_err-put g c = cut _ _ c.from_residual.ensures.0 c.in_err-put.ensures

pub returns-in_err-put-2 : goal.returns-in_err-put-2
unfolding markShown
returns-in_err-put-2 g c = then _ c.in_ok-put.ensures (cut _ _ c.from_residual-in_err-put-2.ensures.0 (rw c.under_dots.ensures at c.in_err-put-2.ensures))

pub returns-in_err-put_rooms : goal.returns-in_err-put_rooms
unfolding markShown
returns-in_err-put_rooms g c = then _ c.in_ok-put.ensures
    (then _ (rw c.under_dots.ensures at c.in_ok-put-2.ensures)
    (cut _ _ c.from_residual-in_err-put_rooms.ensures.0 (rw c.part.ensures at c.in_err-put_rooms.ensures)))

pub returns : goal.returns
unfolding markShown
returns g c = then _ c.in_ok-put.ensures
    (then _ (rw c.under_dots.ensures at c.in_ok-put-2.ensures) (then _ (rw c.part.ensures at c.in_ok-put_rooms.ensures) c.put-3.ensures))
