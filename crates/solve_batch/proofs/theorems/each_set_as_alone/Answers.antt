use Rattle.solve_batch.proofs.Promise.{by_itself}
use Rattle.solve_batch.proofs.theorems.each_set_as_alone.Goals as goal

pub returns : goal.returns
returns c = λ pool table words lengths result answers work met fit. by_itself pool table words lengths result answers work met fit
