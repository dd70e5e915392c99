use Rattle.lines.proofs.Determined.{check-line-numbered}
use Rattle.lines.proofs.theorems.checking_is_numbered.Goals as goal

pub returns : goal.returns
returns c = check-line-numbered
