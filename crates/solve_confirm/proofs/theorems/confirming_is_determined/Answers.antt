use Rattle.solve_confirm.proofs.Determined.{confirm-determined}
use Rattle.solve_confirm.proofs.theorems.confirming_is_determined.Goals as goal

pub returns : goal.returns
returns c = confirm-determined
