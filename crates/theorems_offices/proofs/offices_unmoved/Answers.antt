use Rattle.theorems_offices.proofs.Offices.{unmoved}
use Rattle.theorems_offices.proofs.offices_unmoved.Goals as goal

pub returns : goal.returns
returns c = unmoved
