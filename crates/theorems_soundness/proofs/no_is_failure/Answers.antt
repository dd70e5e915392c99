use Rattle.theorems_soundness.proofs.Soundness.{no-fails}
use Rattle.theorems_soundness.proofs.no_is_failure.Goals as goal

pub returns : goal.returns
returns g c = λ ν cs bs bounds says. no-fails ν cs bs bounds says
