use Rattle.std.proofs.Common.{arith}
use Rattle.types.proofs.Factors.{read-none, read-short, read-more, read-all}
use Rattle.types.proofs.Product.value.Goals as goal

pub factors-init : goal.factors-init
factors-init c = rw c.into_iter-factor-iterator.ensures.into_iter_gives (read-none _ _ c.scalar-out.ensures)

pub push-requires : goal.push-requires
push-requires c = omega (arith, read-short c.factors.invariant c.in-Some.ensures.steps, c.args.self.factors.1.many)

pub factors-preserved : goal.factors-preserved
factors-preserved c = rw c.push.ensures (read-more c.factors.invariant c.value.result _ _ c.in-Some.ensures.steps c.value.ensures)

pub returns : goal.returns
returns c = read-all c.factors.invariant c.in-None.ensures.steps.0
