use Rattle.theorems_completeness.proofs.Completeness.{part-refused}
use Rattle.theorems_completeness.proofs.part_is_refused.Goals as goal

pub returns : goal.returns
returns g c = λ ν held lawful tells ds given five cs within d r makes. part-refused ν held lawful tells ds given five cs within d r makes
