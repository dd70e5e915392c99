use Rattle.theorems_compaction.proofs.Calls.{offices-compacted}
use Rattle.theorems_compaction.proofs.compacted_alike.Goals as goal

pub returns : goal.returns
returns c = offices-compacted
