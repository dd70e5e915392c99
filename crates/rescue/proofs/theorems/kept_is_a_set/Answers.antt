use Rattle.rescue.proofs.Promise.{kept-well}
use Rattle.rescue.proofs.Outcome.{kept-passes, kept-solved}
use Rattle.rescue.proofs.NeverOne.{never-1}
use Rattle.rescue.proofs.theorems.kept_is_a_set.Goals as goal

pub returns : goal.returns
returns c = λ pool table file b. record {
  well = kept-well pool table file b;
  passes = kept-passes pool table file b;
  solved = kept-solved pool table file b;
  never-1 = never-1 pool table file b;
}
