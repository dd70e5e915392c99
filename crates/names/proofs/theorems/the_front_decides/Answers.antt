use Rattle.names.proofs.Kept.{front-decides}
use Rattle.names.proofs.theorems.the_front_decides.Goals as goal

pub returns : goal.returns
returns c = λ pool table pool' table' s. front-decides s
