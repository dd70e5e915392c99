use Rattle.solve_ceiling.proofs.Determined.{answers-highest}
use Rattle.solve_ceiling.proofs.theorems.ceiling_has_a_highest.Goals as goal

pub returns : goal.returns
returns c = answers-highest
