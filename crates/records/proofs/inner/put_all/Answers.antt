-- `put_all` meets its contract.
use mathlib.Core.Path.{sym}
use native.Mathlib.Omega.{arith}
use Rattle.records.proofs.Stores.{sets-past, part-cut}
use Rattle.records.proofs.inner.put_all.Goals as goal

pub returns-then-dst-i : goal.returns-then-dst-i
returns-then-dst-i c = sym (sets-past c.args.v.now c.args.dst.now c.args.i (omega (arith, c.if-dst-i.true)))

pub returns : goal.returns
returns c =
    let m = c.min-n.ensures in
    part-cut c.args.v.now c.args.dst.now _ c.args.i c.min-n.result _ c.copy_from_slice.ensures.after (omega arith)
    (omega (arith, m, c.if-dst-i.false)) (omega (arith, m)) (λ h. omega (arith, m, h))
