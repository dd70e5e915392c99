use Rattle.theorems_offices.proofs.Offices.{numbering}
use Rattle.theorems_offices.proofs.rescued_alike.Goals as goal

pub returns : goal.returns
returns c = λ pool table pool' table' g g' file file' kept kept' skipped skipped' e f h. (numbering g g').rescue file file' kept kept' skipped skipped' e f h
