use Rattle.theorems_offices.proofs.Offices.{numbering}
use Rattle.theorems_offices.proofs.text_written_alike.Goals as goal

pub returns : goal.returns
returns c = λ pool table pool' table' g g' set set' text text' e r. (numbering g g').writeText set set' text text' e r
