use Rattle.solve_conflict.proofs.Determined.{conflict-determined}
use Rattle.solve_conflict.proofs.theorems.conflict_is_determined.Goals as goal

pub returns : goal.returns
returns c = conflict-determined
