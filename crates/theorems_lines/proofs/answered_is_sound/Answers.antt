use Rattle.theorems_lines.proofs.Promise.{accepted-line}
use Rattle.theorems_lines.proofs.answered_is_sound.Goals as goal

pub returns : goal.returns
returns c = accepted-line
