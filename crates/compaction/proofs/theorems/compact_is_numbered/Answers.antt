use Rattle.compaction.proofs.Determined.{compact-numbered}
use Rattle.compaction.proofs.theorems.compact_is_numbered.Goals as goal

pub returns : goal.returns
returns c = compact-numbered
