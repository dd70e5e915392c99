use Rattle.solve_ceiling.proofs.Determined.{ceiling-numbered}
use Rattle.solve_ceiling.proofs.theorems.ceiling_is_numbered.Goals as goal

pub returns : goal.returns
returns c = ceiling-numbered
