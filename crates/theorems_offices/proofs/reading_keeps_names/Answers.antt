use Rattle.theorems_offices.proofs.Deeds.{reading-keeps}
use Rattle.theorems_offices.proofs.reading_keeps_names.Goals as goal

pub returns : goal.returns
returns c = reading-keeps
