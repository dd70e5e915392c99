use Rattle.std.proofs.Common.{◌≡◌}
use Rattle.rules.specs.Base.{any}
use Rattle.rules.specs.Trees.{dim, opens}
use Rattle.replace.specs.Leaves.{replaced}
use Rattle.replace.proofs.substitution.Substitution.touches_product.Given as goal

abbrev pub invariant-factors : goal.invariant-factors
invariant-factors l = any (replaced l.fn.self.lent.0) (opens (dim l.factor-iterator.factors.0)) ≡ any (replaced l.fn.self.lent.0) (opens (dim l.fn.p.factors.0))
