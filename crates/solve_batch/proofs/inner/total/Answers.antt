-- `inner::total` meets its contract. The invariant: the sum so far, with those that are left, is the whole.
use native.Mathlib.Omega.{arith}
use lib.ListN.{drop_of_length-le}
use Rattle.rules.specs.Base.{sum_of}
use Rattle.solve_batch.proofs.Steps.{rest_sum}
use mathlib.Core.Path.{ap}
use Rattle.solve_batch.proofs.inner.total.Goals as goal

pub loop-n-preserved : goal.loop-n-preserved
loop-n-preserved c =
    let l = c.loop-n in
    let w = c.type_inv.lengths l.n-index in
    (omega (arith, l.invariant.0, rest_sum c.args.lengths.now l.n-index c.loop-n-test.true), omega (arith, w, l.invariant.1))

pub returns : goal.returns
returns c =
    let l = c.loop-n in
    let z = ap (sum_of (λ n. n)) (drop_of_length-le c.args.lengths.now {i = l.n-index} (omega arith)) in
    (omega (arith, l.invariant.0, z), omega (arith, l.invariant.1, c.requires))
