use Rattle.judge_meaning.proofs.Truths.{open-among, dimension-among, no-dimension}
use Rattle.judge_meaning.proofs.inner.truth.is_dimension.Goals as goal

pub returns-in-Open : goal.returns-in-Open
returns-in-Open c = open-among _ _ c.among_bounds.ensures c.in-Open.ensures

pub returns-in-Dimension : goal.returns-in-Dimension
returns-in-Dimension c = dimension-among _ _ c.among_bounds-in-Dimension.ensures c.in-Dimension.ensures

pub returns-in_default : goal.returns-in_default
returns-in_default c = no-dimension _ _ _ c.in_default.not-Open c.in_default.not-Dimension c.head.ensures
