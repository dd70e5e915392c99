use Rattle.theorems_soundness.proofs.Unmet.{add-call}
use Rattle.theorems_soundness.proofs.Violated.{accepted-line}
use Rattle.theorems_soundness.proofs.violated_call_is_final.Goals as goal

pub returns : goal.returns
returns c = λ pool table con. record {
  line = add-call pool table con;
  accepts = λ set result work records bounds rounds line answer premise within. accepted-line pool table con line answer premise within;
}
