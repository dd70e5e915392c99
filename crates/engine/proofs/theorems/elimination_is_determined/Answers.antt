use Rattle.engine.proofs.Determined.{eliminate-determined}
use Rattle.engine.proofs.theorems.elimination_is_determined.Goals as goal

pub returns : goal.returns
returns c = eliminate-determined
