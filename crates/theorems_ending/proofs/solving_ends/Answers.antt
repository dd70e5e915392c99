use Rattle.theorems_ending.proofs.Ending.{ends}
use Rattle.theorems_ending.proofs.solving_ends.Goals as goal

pub returns : goal.returns
returns c = λ pool table good cs admitted. record { never-out = (ends good admitted).0; all-fuel = (ends good admitted).1 }
