use Rattle.text.proofs.Determined.{read-text-numbered}
use Rattle.text.proofs.theorems.reading_is_numbered.Goals as goal

pub returns : goal.returns
returns c = read-text-numbered
