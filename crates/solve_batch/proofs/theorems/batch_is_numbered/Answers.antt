use Rattle.solve_batch.proofs.Determined.{batch-numbered}
use Rattle.solve_batch.proofs.theorems.batch_is_numbered.Goals as goal

pub returns : goal.returns
returns c = batch-numbered
