use Rattle.theorems_soundness.proofs.Soundness.{own-answer}
use Rattle.theorems_soundness.proofs.own_answer_is_confirmed.Goals as goal

pub returns : goal.returns
returns g c = λ ν held order cs given bs bounds rounds accepts premise. own-answer ν held order cs given bs bounds rounds accepts premise
