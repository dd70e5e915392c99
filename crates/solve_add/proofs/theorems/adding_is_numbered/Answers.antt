use Rattle.solve_add.proofs.Determined.{add-numbered}
use Rattle.solve_add.proofs.theorems.adding_is_numbered.Goals as goal

pub returns : goal.returns
returns c = add-numbered
