use Rattle.judge.proofs.Determined.{judge-determined}
use Rattle.judge.proofs.theorems.judging_is_determined.Goals as goal

pub returns : goal.returns
returns c = judge-determined
