use Rattle.theorems_completeness.proofs.Completeness.{conflict}
use Rattle.theorems_completeness.proofs.conflict_in_part.Goals as goal

pub returns : goal.returns
returns c = conflict
