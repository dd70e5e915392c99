use Rattle.lines.proofs.Determined.{check-line-determined}
use Rattle.lines.proofs.theorems.checking_is_determined.Goals as goal

pub returns : goal.returns
returns c = check-line-determined
