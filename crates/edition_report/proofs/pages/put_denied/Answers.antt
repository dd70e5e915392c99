-- `put_denied` meets its contract: piece by piece.
use Rattle.rules.specs.Reports.{findingText}
use Rattle.text_spell.proofs.Sinks.{cut, then}
use Rattle.edition_report.proofs.pages.put_denied.Goals as goal

pub returns-in_err-put : goal.returns-in_err-put
unfolding findingText
returns-in_err-put g c = λ names cs new. cut _ _ c.from_residual.ensures.0 c.in_err-put.ensures

pub returns : goal.returns
unfolding findingText
returns g c = λ names cs new. then _ c.in_ok-put.ensures (rw (c.line_in.ensures, c.constraint_line.ensures) at c.put_part.ensures)
