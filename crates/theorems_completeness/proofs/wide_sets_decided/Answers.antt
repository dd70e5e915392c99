use Rattle.theorems_completeness.proofs.Completeness.{wide-decided}
use Rattle.theorems_completeness.proofs.wide_sets_decided.Goals as goal

pub returns : goal.returns
returns g c = λ ν held lawful tells cs given. wide-decided ν held lawful tells cs given
