use Rattle.solve_add.proofs.Determined.{add-determined}
use Rattle.solve_add.proofs.theorems.adding_is_determined.Goals as goal

pub returns : goal.returns
returns c = add-determined
