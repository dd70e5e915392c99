-- `inner::product_from` meets its contract: so many places are from the words.
use mathlib.Core.Path.{refl, ◌∙◌}
use mathlib.Core.List.{[]}
use native.Mathlib.Omega.{arith}
use lib.ListN.{length-set}
use Rattle.products.proofs.Held.{made-long}
use Rattle.calls_defined.specs.Factors.{factorsFrom}
use Rattle.calls_defined.proofs.Factors.{from_step, from-whole}
use Rattle.calls_defined.proofs.inner.product_from.Goals as goal

pub loop-i-init : goal.loop-i-init
unfolding factorsFrom
loop-i-init c =
    (omega arith, made-long [] [] c.scalar-p.result [] c.scalar-p.ensures, refl)

pub loop-i-preserved : goal.loop-i-preserved
loop-i-preserved c =
    let l = c.loop-i in (
      omega arith,
      length-set l.p.factors l.i c.factor_at.result
          ∙ l.invariant.1,
      from_step c.args.words.now l.p.factors l.i c.factor_at.result (omega (arith, l.invariant.1)) c.factor_at.ensures l.invariant.2,
    )

pub returns : goal.returns
returns c =
    let l = c.loop-i in
    from-whole c.args.words.now l.p l.i c.args.count (omega arith) (omega arith) l.invariant.1 l.invariant.2
