use Rattle.theorems_lines.proofs.Promise.{line-alike}
use Rattle.theorems_lines.proofs.read_alike_answered_alike.Goals as goal

pub returns : goal.returns
returns c = line-alike
