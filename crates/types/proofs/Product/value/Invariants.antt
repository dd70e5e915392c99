use Rattle.types.proofs.Factors.{Read}
use Rattle.types.proofs.Product.value.Given as goal

abbrev pub invariant-factors : goal.invariant-factors
invariant-factors l = Read l.factor-iterator.factors.0 l.fn.self.factors.0 l.out
