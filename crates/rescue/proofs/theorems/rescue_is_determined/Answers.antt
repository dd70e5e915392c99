use Rattle.rescue.proofs.Determined.{rescue-determined}
use Rattle.rescue.proofs.theorems.rescue_is_determined.Goals as goal

pub returns : goal.returns
returns c = rescue-determined
