use Rattle.theorems_soundness.proofs.Unmet.{other-violated}
use Rattle.theorems_soundness.proofs.Violated.{violated-final, exception-true, exception-fields}
use Rattle.theorems_soundness.proofs.violated_is_final.Goals as goal

pub returns : goal.returns
returns g c = λ ν k. record {
  final = violated-final ν k;
  exception-violated = other-violated ν k;
  exception-true = exception-true ν k;
  exception-fields = exception-fields ν k;
}
