use Rattle.theorems_completeness.proofs.Completeness.{wider}
use Rattle.theorems_completeness.proofs.wide_is_wider.Goals as goal

pub returns : goal.returns
returns g c = λ same d k h. wider same d k h
