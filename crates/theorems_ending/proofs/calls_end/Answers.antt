use Rattle.theorems_ending.proofs.Ending.{call_ends}
use Rattle.theorems_ending.proofs.calls_end.Goals as goal

pub returns : goal.returns
returns c = call_ends
