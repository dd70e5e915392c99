-- `inner::end_at` meets its contract.
use Rattle.text_lines.proofs.Statements.{end-other}
use Rattle.text_lines.proofs.inner.end_at.Goals as goal

pub returns-in-At : goal.returns-in-At
returns-in-At c = rw c.in-At.is (end-other c.if-i-line.true)
