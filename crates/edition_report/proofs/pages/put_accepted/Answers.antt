-- `put_accepted` meets its contract: piece by piece.
use Rattle.text_spell.proofs.Sinks.{cut, then}
use Rattle.edition_report.proofs.pages.put_accepted.Goals as goal

pub returns-in_err-put : goal.returns-in_err-put
returns-in_err-put g c = cut _ _ c.from_residual.ensures.0 c.in_err-put.ensures

pub returns-in_err-put_quantity : goal.returns-in_err-put_quantity
returns-in_err-put_quantity g c = then _ c.in_ok-put.ensures (cut _ _ c.from_residual-in_err-put_quantity.ensures.0 c.in_err-put_quantity.ensures)

pub returns-in_err-put-2 : goal.returns-in_err-put-2
returns-in_err-put-2 g c = then _ c.in_ok-put.ensures
    (then _ c.in_ok-put_quantity.ensures (cut _ _ c.from_residual-in_err-put-2.ensures.0 c.in_err-put-2.ensures))

pub returns-in_err-put_quantity-2 : goal.returns-in_err-put_quantity-2
returns-in_err-put_quantity-2 g c = then _ c.in_ok-put.ensures
    (then _ c.in_ok-put_quantity.ensures
    (then _ c.in_ok-put-2.ensures (cut _ _ c.from_residual-in_err-put_quantity-2.ensures.0 c.in_err-put_quantity-2.ensures)))

pub returns-in_err-put-3 : goal.returns-in_err-put-3
returns-in_err-put-3 g c = then _ c.in_ok-put.ensures
    (then _ c.in_ok-put_quantity.ensures
    (then _ c.in_ok-put-2.ensures (then _ c.in_ok-put_quantity-2.ensures (cut _ _ c.from_residual-in_err-put-3.ensures.0 c.in_err-put-3.ensures))))

pub returns-in_err-put_quantity-3 : goal.returns-in_err-put_quantity-3
returns-in_err-put_quantity-3 g c = then _ c.in_ok-put.ensures
    (then _ c.in_ok-put_quantity.ensures
    (then _ c.in_ok-put-2.ensures (then _ c.in_ok-put_quantity-2.ensures
    (then _ c.in_ok-put-3.ensures (cut _ _ c.from_residual-in_err-put_quantity-3.ensures.0 c.in_err-put_quantity-3.ensures)))))

pub returns : goal.returns
returns g c = then _ c.in_ok-put.ensures
    (then _ c.in_ok-put_quantity.ensures
    (then _ c.in_ok-put-2.ensures (then _ c.in_ok-put_quantity-2.ensures
    (then _ c.in_ok-put-3.ensures (then _ c.in_ok-put_quantity-3.ensures c.put-4.ensures)))))
