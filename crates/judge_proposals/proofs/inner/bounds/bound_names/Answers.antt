use mathlib.Core.Path.{◌∙◌}
use mathlib.Core.List.{[], map}
use native.Mathlib.Omega.{arith}
use lib.Seq.{take_all}
use Rattle.rules.specs.Writing.{word_of}
use Rattle.judge_proposals.proofs.Bounds.{nth, many, more-marked}
use Rattle.judge_proposals.proofs.inner.bounds.bound_names.Goals as goal

pub loop-i-init : goal.loop-i-init
loop-i-init c = λ pool table os h. c.new-found.ensures

pub loop-i-preserved : goal.loop-i-preserved
loop-i-preserved c = λ pool table os h.
    let s = c.args.s.now in
    let b = nth pool table s os h _ c.loop-i-test.true in
    let z = many pool table s os h in
    rw (← more-marked [] (map word_of os) c.loop-i.i c.name_of.result (omega (arith, z, c.loop-i-test.true)) (c.name_of.ensures b.bound b.held ∙ b.is))
    (c.insert.ensures _ (c.loop-i.invariant pool table os h))

pub returns : goal.returns
returns c = λ pool table os h.
    let z = many pool table c.args.s.now os h in
    rw (take_all c.loop-i.i (map word_of os) (omega (arith, z, c.loop-i-test.false))) at (c.loop-i.invariant pool table os h)
