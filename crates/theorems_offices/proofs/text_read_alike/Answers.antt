use Rattle.theorems_offices.proofs.Offices.{numbering}
use Rattle.theorems_offices.proofs.text_read_alike.Goals as goal

pub returns : goal.returns
returns c = λ pool table pool' table' g g' sheet result result' work work' r h h'. (numbering g g').readText sheet result result' work work' r h h'
