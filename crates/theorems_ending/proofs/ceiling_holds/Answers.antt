use Rattle.theorems_ending.proofs.Ending.{call-ceiling}
use Rattle.theorems_ending.proofs.ceiling_holds.Goals as goal

pub returns : goal.returns
returns c = call-ceiling
