use Rattle.text.proofs.Determined.{write-text-numbered}
use Rattle.text.proofs.theorems.writing_is_numbered.Goals as goal

pub returns : goal.returns
returns c = write-text-numbered
