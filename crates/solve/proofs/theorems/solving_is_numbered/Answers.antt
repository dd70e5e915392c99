use Rattle.solve.proofs.Determined.{solve-numbered}
use Rattle.solve.proofs.theorems.solving_is_numbered.Goals as goal

pub returns : goal.returns
returns c = solve-numbered
