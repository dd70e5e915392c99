use Rattle.theorems_completeness.proofs.Completeness.{call-complete}
use Rattle.theorems_completeness.proofs.call_is_complete.Goals as goal

pub returns : goal.returns
returns c = call-complete
