use Rattle.std.proofs.Common.{arith, ap}
use Rattle.rules.specs.Rounds.{asProducts}
use Rattle.rules.specs.Trees.{size}
use Rattle.solve_step.proofs.Written.{split-is, stuck-is, product-written, type-as}
use Rattle.solve_step.proofs.inner.kinds.as_product.Goals as goal

pub returns-in_default : goal.returns-in_default
unfolding asProducts
returns-in_default c = λ p e. stuck-is (rw c.in_default.is)

pub overflow_add-len : goal.overflow_add-len
overflow_add-len c = omega (arith, c.len.ensures, c.requires)

pub returns : goal.returns
unfolding asProducts
returns c = λ p e.
    let l = c.requires in
    split-is _ (rw c.in-Some.is)
    (product-written c.in-Some.x p (omega (arith, c.len.ensures, ap size e)) (omega (arith, l, ap size e)) c.put.ensures c.put-2.ensures c.put-3.ensures
    (type-as e c.copy.ensures))
