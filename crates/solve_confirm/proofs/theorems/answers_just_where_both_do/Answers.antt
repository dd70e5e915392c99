use Rattle.solve_confirm.proofs.Promise.{just-where}
use Rattle.solve_confirm.proofs.theorems.answers_just_where_both_do.Goals as goal

pub returns : goal.returns
returns c = just-where
