use Rattle.compaction.proofs.Twice.{twice}
use Rattle.compaction.proofs.theorems.twice_is_once.Goals as goal

pub returns : goal.returns
returns c = twice
