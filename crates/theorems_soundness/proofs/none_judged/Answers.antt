use Rattle.theorems_soundness.proofs.Violated.{none-judged}
use Rattle.theorems_soundness.proofs.none_judged.Goals as goal

pub returns : goal.returns
returns g c = λ ν cs bs bounds judged k within says. none-judged ν cs bs bounds judged k within says
