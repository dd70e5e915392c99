use Rattle.theorems_completeness.proofs.Completeness.{conflict-stays}
use Rattle.theorems_completeness.proofs.conflict_stays.Goals as goal

pub returns : goal.returns
returns c = conflict-stays
