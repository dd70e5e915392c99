use Rattle.theorems_soundness.proofs.Instances.{k10-given, k10-accepted}
use Rattle.theorems_soundness.proofs.Soundness.{k10-fails, premise-needed}
use Rattle.theorems_soundness.proofs.premise_is_needed.Goals as goal

pub returns : goal.returns
returns c = record {
  given = k10-given;
  accepts = k10-accepted;
  no-solution = λ s. k10-fails.fails (s k10-fails.constraint k10-fails.given);
  needed = premise-needed;
}
