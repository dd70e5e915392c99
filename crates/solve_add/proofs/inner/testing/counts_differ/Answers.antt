use Rattle.solve_add.proofs.Others.{two-counts, one-left, one-right}
use Rattle.solve_add.proofs.inner.testing.counts_differ.Goals as goal

pub returns-in-Function-Function : goal.returns-in-Function-Function
returns-in-Function-Function c = let i = c.in-Function-Function in two-counts i.ensures i.ensures' i.ps.trees.1.many i.qs.trees.1.many

pub returns-in_default : goal.returns-in_default
returns-in_default c = one-right _ _ c.shape-2.ensures c.in_default.not-Function-1

pub returns-in_default-2 : goal.returns-in_default-2
returns-in_default-2 c = one-left _ _ c.shape.ensures c.in_default.not-Function-0
