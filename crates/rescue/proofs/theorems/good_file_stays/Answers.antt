use Rattle.rescue.proofs.Promise.{good-same}
use Rattle.rescue.proofs.Outcome.{good-outcome}
use Rattle.rescue.proofs.theorems.good_file_stays.Goals as goal

pub returns : goal.returns
returns c = λ pool table file b m cs e. record { same = good-same pool table file b m cs e; outcome = good-outcome pool table file b m cs e }
