use Rattle.theorems_soundness.proofs.Soundness.{solved-form}
use Rattle.theorems_soundness.proofs.accepted_is_solved_form.Goals as goal

pub returns : goal.returns
returns g c = λ ν held order cs given bs bounds rounds accepts. solved-form ν held order cs given bs bounds rounds accepts
