use Rattle.judge_meaning.proofs.Reading.{read-other, read-alone, read-product}
use Rattle.judge_meaning.proofs.inner.read.Goals as goal

pub returns-in_default : goal.returns-in_default
returns-in_default c = read-other _ c.head-head.result c.in_default.not-Dimension c.head-head.ensures

pub returns-in-Some : goal.returns-in-Some
returns-in-Some c = read-alone _ c.in-Dimension.ensures c.in-Some.ensures

pub returns-in-None : goal.returns-in-None
returns-in-None c = read-product _ c.in-Dimension.ensures c.in-None.ensures
