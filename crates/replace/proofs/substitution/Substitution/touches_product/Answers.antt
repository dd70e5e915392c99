-- The factors that are left decide.
use Rattle.std.proofs.Common.{refl, sym, ◌∙◌}
use Rattle.replace.proofs.Dimensions.{product-hit, product-miss, product-empty}
use Rattle.replace.proofs.substitution.Substitution.touches_product.Goals as goal

pub factors-init : goal.factors-init
factors-init c = rw c.into_iter-factor-iterator.ensures.into_iter_gives refl

pub returns-then-replaces : goal.returns-then-replaces
returns-then-replaces c = sym (product-hit c.args.self.lent.0 c.in-Some.ensures.steps (sym (c.replaces.ensures _) ∙ c.if-replaces.true)) ∙ c.factors.invariant

pub factors-preserved : goal.factors-preserved
factors-preserved c = sym (product-miss c.args.self.lent.0 c.in-Some.ensures.steps (sym (c.replaces.ensures _) ∙ c.if-replaces.false)) ∙ c.factors.invariant

pub returns : goal.returns
returns c = sym (product-empty c.args.self.lent.0 _ c.in-None.ensures.steps.0) ∙ c.factors.invariant
