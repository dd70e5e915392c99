use Rattle.compaction.proofs.Determined.{compact-determined}
use Rattle.compaction.proofs.theorems.compact_is_determined.Goals as goal

pub returns : goal.returns
returns c = compact-determined
