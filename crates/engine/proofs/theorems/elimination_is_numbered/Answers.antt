use Rattle.engine.proofs.Determined.{eliminate-numbered}
use Rattle.engine.proofs.theorems.elimination_is_numbered.Goals as goal

pub returns : goal.returns
returns c = eliminate-numbered
