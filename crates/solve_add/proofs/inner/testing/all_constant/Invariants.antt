use Rattle.std.proofs.Common.{◌≡◌}
use Rattle.solve_add.proofs.Tests.{constant}
use Rattle.solve_add.proofs.inner.testing.all_constant.Given as goal

abbrev pub invariant-factors : goal.invariant-factors
invariant-factors l = constant l.factor-iterator.factors.0 ≡ constant l.fn.product.factors.0
