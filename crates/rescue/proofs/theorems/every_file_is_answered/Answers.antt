use Rattle.rescue.proofs.Outcome.{handled}
use Rattle.rescue.proofs.theorems.every_file_is_answered.Goals as goal

pub returns : goal.returns
returns c = handled
