use Rattle.theorems_offices.proofs.Offices.{numbering}
use Rattle.theorems_offices.proofs.read_alike_answered_alike.Goals as goal

pub returns : goal.returns
returns c = λ pool table pool' table' g g'. numbering g g'
