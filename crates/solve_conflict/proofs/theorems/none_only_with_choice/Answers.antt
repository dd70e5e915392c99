use Rattle.solve_conflict.proofs.Worth.{only-with-choice}
use Rattle.solve_conflict.proofs.theorems.none_only_with_choice.Goals as goal

pub returns : goal.returns
returns c = only-with-choice
