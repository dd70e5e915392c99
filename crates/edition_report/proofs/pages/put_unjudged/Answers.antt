-- `put_unjudged` meets its contract: piece by piece.
use Rattle.rules.specs.Reports.{findingText}
use Rattle.text_spell.proofs.Sinks.{cut, then}
use Rattle.edition_report.proofs.pages.put_unjudged.Goals as goal

pub returns-in_err-put_refused : goal.returns-in_err-put_refused
unfolding findingText
returns-in_err-put_refused g c = λ names text cs new. cut _ _ c.from_residual.ensures.0 c.in_err-put_refused.ensures

pub returns : goal.returns
unfolding findingText
returns g c = λ names text cs new. then _ c.in_ok-put_refused.ensures c.put.ensures
