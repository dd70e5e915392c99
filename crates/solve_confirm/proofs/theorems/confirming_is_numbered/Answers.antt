use Rattle.solve_confirm.proofs.Determined.{confirm-numbered}
use Rattle.solve_confirm.proofs.theorems.confirming_is_numbered.Goals as goal

pub returns : goal.returns
returns c = confirm-numbered
