use Rattle.rescue.proofs.Promise.{rescue-again}
use Rattle.rescue.proofs.theorems.rescued_again_is_the_same.Goals as goal

pub returns : goal.returns
returns c = rescue-again
