-- `inner::put_factors` meets its contract: the loop says what is left to store.
use native.Mathlib.Omega.{arith}
use Rattle.products.specs.Told.{given}
use Rattle.calls_defined.proofs.Factors.{put_step, put-end}
use Rattle.calls_defined.proofs.inner.put_factors.Goals as goal

pub loop-i-preserved : goal.loop-i-preserved
loop-i-preserved c =
    let l = c.loop-i in
    put_step c.args.p.factors _ l.dst c.put_factor.new.dst l.i (omega (arith, c.loop-i-test.true)) c.put_factor.ensures l.invariant

pub returns : goal.returns
unfolding given
returns c =
    let l = c.loop-i in
    put-end c.args.p.factors l.dst l.i (omega (arith, c.loop-i-test.false)) l.invariant
