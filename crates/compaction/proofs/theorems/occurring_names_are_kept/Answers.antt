use Rattle.compaction.proofs.Promise.{promised}
use Rattle.compaction.proofs.theorems.occurring_names_are_kept.Goals as goal

pub returns : goal.returns
returns c = promised
