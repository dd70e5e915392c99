use Rattle.text.proofs.Determined.{write-text-determined}
use Rattle.text.proofs.theorems.writing_is_determined.Goals as goal

pub returns : goal.returns
returns c = write-text-determined
