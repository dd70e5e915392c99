-- `put_point` meets its contract: piece by piece.
use Rattle.text_spell.proofs.Sinks.{cut, then}
use Rattle.edition_report.proofs.pages.put_point.Goals as goal

pub returns-in_err-put : goal.returns-in_err-put
returns-in_err-put g c = cut _ _ c.from_residual.ensures.0 c.in_err-put.ensures

pub returns-in_err-put_amount : goal.returns-in_err-put_amount
returns-in_err-put_amount g c = then _ c.in_ok-put.ensures (cut _ _ c.from_residual-in_err-put_amount.ensures.0 c.in_err-put_amount.ensures)

pub returns-in_err-put-2 : goal.returns-in_err-put-2
returns-in_err-put-2 g c = then _ c.in_ok-put.ensures
    (then _ c.in_ok-put_amount.ensures (cut _ _ c.from_residual-in_err-put-2.ensures.0 c.in_err-put-2.ensures))

pub returns : goal.returns
returns g c = then _ c.in_ok-put.ensures (then _ c.in_ok-put_amount.ensures (then _ c.in_ok-put-2.ensures c.put_amount-2.ensures))
