use Rattle.names.proofs.Kept.{alike}
use Rattle.names.proofs.theorems.numbers_stand_for_names.Goals as goal

pub returns : goal.returns
returns c = λ pool table g. alike g
