use Rattle.names.proofs.Kept.{promises-kept}
use Rattle.names.proofs.theorems.entering_keeps_its_promises.Goals as goal

pub returns : goal.returns
returns c = promises-kept
