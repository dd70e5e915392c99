use Rattle.judge_trials.proofs.Trials.{long, deep, flat}
use Rattle.judge_trials.proofs.inner.test.Goals as goal

pub returns-then-n-gt-RECORDS : goal.returns-then-n-gt-RECORDS
returns-then-n-gt-RECORDS c = λ d xs s m. long _ _ c.args.names.good _ _ d s xs c.if-n-gt-RECORDS.true

pub returns-in-Some : goal.returns-in-Some
returns-in-Some c = λ d xs s m. flat _ _ c.args.names.good _ _ d s xs c.if-n-gt-RECORDS.false _ c.in-Some.ensures c.holds.ensures m (search)

pub returns-in-None : goal.returns-in-None
returns-in-None c = λ d xs s m. deep _ _ c.args.names.good _ _ d s xs c.if-n-gt-RECORDS.false c.in-None.ensures
