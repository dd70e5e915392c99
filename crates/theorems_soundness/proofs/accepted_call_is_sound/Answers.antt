use Rattle.theorems_soundness.proofs.Soundness.{solve-call}
use Rattle.theorems_soundness.proofs.accepted_call_is_sound.Goals as goal

pub returns : goal.returns
returns c = solve-call
