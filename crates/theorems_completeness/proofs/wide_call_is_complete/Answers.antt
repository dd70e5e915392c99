use Rattle.theorems_completeness.proofs.Completeness.{wide-complete}
use Rattle.theorems_completeness.proofs.wide_call_is_complete.Goals as goal

pub returns : goal.returns
returns c = wide-complete
