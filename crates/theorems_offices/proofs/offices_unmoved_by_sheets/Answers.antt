use Rattle.theorems_offices.proofs.Deeds.{deeds-unmoved}
use Rattle.theorems_offices.proofs.offices_unmoved_by_sheets.Goals as goal

pub returns : goal.returns
returns c = deeds-unmoved
