use Rattle.theorems_soundness.proofs.Soundness.{yes-solves}
use Rattle.theorems_soundness.proofs.yes_is_true.Goals as goal

pub returns : goal.returns
returns g c = λ ν cs bs bounds says. yes-solves ν cs bs bounds says
