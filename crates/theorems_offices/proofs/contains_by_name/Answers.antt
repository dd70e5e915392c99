use Rattle.theorems_offices.proofs.Offices.{numbering}
use Rattle.theorems_offices.proofs.contains_by_name.Goals as goal

pub returns : goal.returns
returns c = λ pool table pool' table' g g' ws ws' x x' b alike named. (numbering g g').contains ws ws' x x' b alike named
