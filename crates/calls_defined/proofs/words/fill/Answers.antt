-- `words::fill` meets its contract.
use native.Mathlib.Omega.{arith}
use Rattle.records.proofs.Stores.{part-cut}
use Rattle.calls_defined.proofs.words.fill.Goals as goal

pub returns : goal.returns
returns c =
    let m = c.min-n.ensures in
    part-cut c.args.a.now c.args.buffer.now _ 0 c.min-n.result _ c.copy_from_slice.ensures.after (omega arith)
    (omega (arith, m)) (omega (arith, m)) (λ h. omega (arith, m, h))
