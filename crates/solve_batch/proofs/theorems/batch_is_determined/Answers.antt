use Rattle.solve_batch.proofs.Determined.{batch-determined}
use Rattle.solve_batch.proofs.theorems.batch_is_determined.Goals as goal

pub returns : goal.returns
returns c = batch-determined
