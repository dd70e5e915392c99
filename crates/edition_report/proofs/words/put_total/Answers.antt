-- `put_total` meets its contract: piece by piece.
use Rattle.rules.specs.Reports.{totalText}
use Rattle.text_spell.proofs.Sinks.{cut, then}
use Rattle.edition_report.proofs.words.put_total.Goals as goal

pub returns-in_err-put_quantity : goal.returns-in_err-put_quantity
unfolding totalText
returns-in_err-put_quantity g c = cut _ _ c.from_residual.ensures.0 c.in_err-put_quantity.ensures

pub returns-in_err-put : goal.returns-in_err-put
unfolding totalText
returns-in_err-put g c = then _ c.in_ok-put_quantity.ensures (cut _ _ c.from_residual-in_err-put.ensures.0 c.in_err-put.ensures)

pub returns-in_err-put_amount : goal.returns-in_err-put_amount
unfolding totalText
returns-in_err-put_amount g c =
    then _ c.in_ok-put_quantity.ensures
    (then _ c.in_ok-put.ensures (cut _ _ c.from_residual-in_err-put_amount.ensures.0 c.in_err-put_amount.ensures))

pub returns-in_err-put-2 : goal.returns-in_err-put-2
unfolding totalText
returns-in_err-put-2 g c =
    then _ c.in_ok-put_quantity.ensures
    (then _ c.in_ok-put.ensures
    (then _ c.in_ok-put_amount.ensures (cut _ _ c.from_residual-in_err-put-2.ensures.0 c.in_err-put-2.ensures)))

pub returns-in_err-put_amount-2 : goal.returns-in_err-put_amount-2
unfolding totalText
returns-in_err-put_amount-2 g c =
    let no = rw c.saturating_sub.ensures at c.in_err-put_amount-2.ensures in
    then _ c.in_ok-put_quantity.ensures
    (then _ c.in_ok-put.ensures
    (then _ c.in_ok-put_amount.ensures
    (then _ c.in_ok-put-2.ensures (cut _ _ c.from_residual-in_err-put_amount-2.ensures.0 no))))

pub returns-in_err-put-3 : goal.returns-in_err-put-3
unfolding totalText
returns-in_err-put-3 g c =
    let no = rw c.saturating_sub.ensures at c.in_ok-put_amount-2.ensures in
    then _ c.in_ok-put_quantity.ensures
    (then _ c.in_ok-put.ensures
    (then _ c.in_ok-put_amount.ensures
    (then _ c.in_ok-put-2.ensures
    (then _ no (cut _ _ c.from_residual-in_err-put-3.ensures.0 c.in_err-put-3.ensures)))))

pub returns-in_err-put_amount-3 : goal.returns-in_err-put_amount-3
unfolding totalText
returns-in_err-put_amount-3 g c =
    let no = rw c.saturating_sub.ensures at c.in_ok-put_amount-2.ensures in
    then _ c.in_ok-put_quantity.ensures
    (then _ c.in_ok-put.ensures
    (then _ c.in_ok-put_amount.ensures
    (then _ c.in_ok-put-2.ensures
    (then _ no
    (then _ c.in_ok-put-3.ensures (cut _ _ c.from_residual-in_err-put_amount-3.ensures.0 c.in_err-put_amount-3.ensures))))))

pub returns : goal.returns
unfolding totalText
returns g c =
    let no = rw c.saturating_sub.ensures at c.in_ok-put_amount-2.ensures in
    then _ c.in_ok-put_quantity.ensures
    (then _ c.in_ok-put.ensures
    (then _ c.in_ok-put_amount.ensures
    (then _ c.in_ok-put-2.ensures
    (then _ no
    (then _ c.in_ok-put-3.ensures (then _ c.in_ok-put_amount-3.ensures c.put-4.ensures))))))
