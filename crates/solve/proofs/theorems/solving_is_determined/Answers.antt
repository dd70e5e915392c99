use Rattle.solve.proofs.Determined.{solve-determined}
use Rattle.solve.proofs.theorems.solving_is_determined.Goals as goal

pub returns : goal.returns
returns c = solve-determined
