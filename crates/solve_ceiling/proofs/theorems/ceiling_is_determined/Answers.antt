use Rattle.solve_ceiling.proofs.Determined.{ceiling-determined}
use Rattle.solve_ceiling.proofs.theorems.ceiling_is_determined.Goals as goal

pub returns : goal.returns
returns c = ceiling-determined
