-- `put_remaining` meets its contract: piece by piece.
use Rattle.text_spell.proofs.Sinks.{cut, then}
use Rattle.edition_report.proofs.pages.put_remaining.Goals as goal

pub returns-in_err-put_refused : goal.returns-in_err-put_refused
returns-in_err-put_refused g c = cut _ _ c.from_residual.ensures.0 c.in_err-put_refused.ensures

pub returns-in_err-put : goal.returns-in_err-put
returns-in_err-put g c = then _ c.in_ok-put_refused.ensures (cut _ _ c.from_residual-in_err-put.ensures.0 c.in_err-put.ensures)

pub returns-in_err-put_quantity : goal.returns-in_err-put_quantity
returns-in_err-put_quantity g c = then _ c.in_ok-put_refused.ensures
    (then _ c.in_ok-put.ensures (cut _ _ c.from_residual-in_err-put_quantity.ensures.0 c.in_err-put_quantity.ensures))

pub returns : goal.returns
returns g c = then _ c.in_ok-put_refused.ensures (then _ c.in_ok-put.ensures (then _ c.in_ok-put_quantity.ensures c.put-2.ensures))
