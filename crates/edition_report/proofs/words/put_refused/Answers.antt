-- `put_refused` meets its contract: piece by piece.
use Rattle.rules.specs.Reports.{refusedText}
use Rattle.text_spell.proofs.Sinks.{cut, then}
use Rattle.edition_report.proofs.words.put_refused.Goals as goal

pub returns-in_err-put : goal.returns-in_err-put
unfolding refusedText
returns-in_err-put g c = cut _ _ c.from_residual.ensures.0 c.in_err-put.ensures

pub returns-in_err-put_amount : goal.returns-in_err-put_amount
unfolding refusedText
returns-in_err-put_amount g c = then _ c.in_ok-put.ensures
    (cut _ _ c.from_residual-in_err-put_amount.ensures.0 (rw c.number.ensures at c.in_err-put_amount.ensures))

pub returns-in_err-put-2 : goal.returns-in_err-put-2
unfolding refusedText
returns-in_err-put-2 g c = then _ c.in_ok-put.ensures
    (then _ (rw c.number.ensures at c.in_ok-put_amount.ensures) (cut _ _ c.from_residual-in_err-put-2.ensures.0 c.in_err-put-2.ensures))

pub returns : goal.returns
unfolding refusedText
returns g c = then _ c.in_ok-put.ensures
    (then _ (rw c.number.ensures at c.in_ok-put_amount.ensures) (then _ c.in_ok-put-2.ensures (rw c.reason.ensures at c.put-3.ensures)))
