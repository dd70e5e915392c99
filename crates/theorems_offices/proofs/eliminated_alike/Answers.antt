use Rattle.theorems_offices.proofs.Offices.{numbering}
use Rattle.theorems_offices.proofs.eliminated_alike.Goals as goal

pub returns : goal.returns
returns c = λ pool table pool' table' g g' rows rows' result result' work work' e r. (numbering g g').eliminate rows rows' result result' work work' e r
