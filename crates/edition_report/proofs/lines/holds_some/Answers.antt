-- `holds_some` meets its contract: by the first sign.
use Rattle.std.proofs.Common.{arith}
use Rattle.edition_report.proofs.Ahead.{nothing-there, sign-there}
use Rattle.edition_report.proofs.lines.holds_some.Goals as goal

pub returns-then-line-at : goal.returns-then-line-at
returns-then-line-at c = nothing-there c.skip_blanks-at.ensures c.if-line-at.true

pub returns : goal.returns
returns c = sign-there c.skip_blanks-at.ensures (omega (arith, c.if-line-at.false))
