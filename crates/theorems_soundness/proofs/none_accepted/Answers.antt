use Rattle.theorems_soundness.proofs.Violated.{none-violated}
use Rattle.theorems_soundness.proofs.none_accepted.Goals as goal

pub returns : goal.returns
returns g c = λ ν held order cs given bs bounds rounds accepts premise k within says.
    none-violated ν held order cs given bs bounds rounds accepts premise k within says
