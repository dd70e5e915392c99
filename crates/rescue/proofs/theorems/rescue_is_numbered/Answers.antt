use Rattle.rescue.proofs.Determined.{rescue-numbered}
use Rattle.rescue.proofs.theorems.rescue_is_numbered.Goals as goal

pub returns : goal.returns
returns c = rescue-numbered
