-- `inner::quote` meets its contract.
use Rattle.std.proofs.Common.{arith}
use Rattle.text_grammar.proofs.Points.{stays}
use Rattle.text_lines.proofs.Statements.{quote-there, quote-other, quote-end, quote-past}
use Rattle.text_lines.proofs.inner.quote.Goals as goal
use Rattle.text_lines.proofs.inner.quote.Goals.{else-i-line-via-then-i-line+else-line-i-eq34, else-i-line-via-else-i-line}

pub returns-in_default : goal.returns-in_default
returns-in_default c = stays c.args.p _ tt quote-past tt c.in_default.not-At

pub returns-then-line-i-eq34 : goal.returns-then-line-i-eq34
returns-then-line-i-eq34 c = rw c.in-At.is (quote-there c.if-i-line.true c.if-line-i-eq34.true)

pub returns-else-i-line : goal.returns-else-i-line
returns-else-i-line c = rw c.in-At.is (elim c.else-i-line.branch [
  | else-i-line-via-then-i-line+else-line-i-eq34 w ↦ quote-other w.if-i-line.true w.if-line-i-eq34.false
  | else-i-line-via-else-i-line w ↦ quote-end (omega (arith, w.if-i-line.false))
])
