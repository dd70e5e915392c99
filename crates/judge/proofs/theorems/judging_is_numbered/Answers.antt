use Rattle.judge.proofs.Determined.{judge-numbered}
use Rattle.judge.proofs.theorems.judging_is_numbered.Goals as goal

pub returns : goal.returns
returns c = judge-numbered
