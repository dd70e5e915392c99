use Rattle.solve_confirm.proofs.Promise.{is-true}
use Rattle.solve_confirm.proofs.theorems.confirmed_is_true.Goals as goal

pub returns : goal.returns
returns c = is-true
