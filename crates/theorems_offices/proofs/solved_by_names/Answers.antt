use Rattle.theorems_offices.proofs.ByNames.{solve-by-names}
use Rattle.theorems_offices.proofs.solved_by_names.Goals as goal

pub returns : goal.returns
returns c = λ pool table g cs. solve-by-names pool table g cs
