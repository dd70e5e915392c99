use Rattle.std.proofs.Common.{arith, false}
use Rattle.records.proofs.Moves.{part-moves}
use Rattle.records.proofs.Parts.{part-fail, part-step, parts-told}
use Rattle.records.proofs.reader.Reader.all.Goals as goal

pub returns-in_default : goal.returns-in_default
returns-in_default c = let a = c.args in
    c.loop-at.invariant.1 false (part-fail a.self a.part c.loop-at.at (omega (arith, c.loop-at.invariant.0, c.loop-at-test.true)) c.in_default.ensures)

pub loop-at-smaller : goal.loop-at-smaller
loop-at-smaller c =
    let u = c.in-Some.ensures in
    let v = part-moves c.args.self c.args.part c.loop-at.at u.0 c.in-Some.end u.1 in omega (arith, v.0, c.loop-at-test.true)

pub loop-at-preserved : goal.loop-at-preserved
loop-at-preserved c = let a = c.args in (
  c.loop-at.invariant.0,
  λ b h. c.loop-at.invariant.1 b
      (part-step a.self a.part c.loop-at.at c.in-Some.end (omega (arith, c.loop-at.invariant.0, c.loop-at-test.true)) c.in-Some.ensures b h),
)

pub returns : goal.returns
returns c = let a = c.args in
    rw c.loop-at.invariant.0 (c.loop-at.invariant.1 _ (parts-told a.self a.part c.loop-at.at (omega (arith, c.loop-at.invariant.0, c.loop-at-test.false))))
