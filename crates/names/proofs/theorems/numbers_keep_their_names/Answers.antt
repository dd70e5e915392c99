use Rattle.names.proofs.Kept.{numbers-kept}
use Rattle.names.proofs.theorems.numbers_keep_their_names.Goals as goal

pub returns : goal.returns
returns c = numbers-kept
