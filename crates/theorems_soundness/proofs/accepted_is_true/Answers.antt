use Rattle.theorems_soundness.proofs.Soundness.{accepted-true}
use Rattle.theorems_soundness.proofs.accepted_is_true.Goals as goal

pub returns : goal.returns
returns g c = λ ν held order cs given bs bounds rounds accepts premise. accepted-true ν held order cs given bs bounds rounds accepts premise
