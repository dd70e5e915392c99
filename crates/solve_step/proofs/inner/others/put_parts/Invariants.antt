use Rattle.solve_step.proofs.Others.{Still}
use Rattle.solve_step.proofs.inner.others.put_parts.Given as goal

abbrev pub invariant-factors : goal.invariant-factors
invariant-factors l = Still l.fn.out l.out l.factor-iterator.factors.0 l.fn.product.factors.0
