use Rattle.text.proofs.Determined.{read-text-determined}
use Rattle.text.proofs.theorems.reading_is_determined.Goals as goal

pub returns : goal.returns
returns c = read-text-determined
