use Rattle.solve_batch.proofs.Promise.{moved}
use Rattle.solve_batch.proofs.theorems.order_only_moves.Goals as goal

pub returns : goal.returns
returns c = moved
