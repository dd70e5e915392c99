-- `put_page` meets its contract: piece by piece.
use Rattle.rules.specs.Reports.{reportText}
use Rattle.text_spell.proofs.Sinks.{cut, then}
use Rattle.edition_report.proofs.inner.put_page.Goals as goal

pub returns-in_err-put_shown : goal.returns-in_err-put_shown
unfolding reportText
returns-in_err-put_shown g c = λ f h. cut _ _ c.from_residual.ensures.0 c.in_err-put_shown.ensures

pub returns-in_err-put_place : goal.returns-in_err-put_place
unfolding reportText
returns-in_err-put_place g c = λ f h. then _ c.in_ok-put_shown.ensures (cut _ _ c.from_residual-in_err-put_place.ensures.0 (c.in_err-put_place.ensures _ f h))

pub returns-in_err-put : goal.returns-in_err-put
unfolding reportText
returns-in_err-put g c = λ f h. then _ c.in_ok-put_shown.ensures
    (then _ (c.in_ok-put_place.ensures _ f h) (cut _ _ c.from_residual-in_err-put.ensures.0 c.in_err-put.ensures))

pub returns : goal.returns
unfolding reportText
returns g c = λ f h. then _ c.in_ok-put_shown.ensures (then _ (c.in_ok-put_place.ensures _ f h) (then _ c.in_ok-put.ensures (c.put_outcome.ensures f h)))
