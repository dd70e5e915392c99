-- `inner::small` meets its contract.
use mathlib.Core.Path.{refl, ◌∙◌}
use Rattle.compaction.proofs.Checks.{few-not, few-step, few-large, few-end}
use Rattle.compaction.proofs.inner.small.Goals as goal

pub returns-then-lengths-gt64 : goal.returns-then-lengths-gt64
returns-then-lengths-gt64 c = few-not c.args.lengths.now c.if-lengths-gt64.true

pub loop-n-init : goal.loop-n-init
loop-n-init c = refl

pub returns-then-n-gt2048 : goal.returns-then-n-gt2048
returns-then-n-gt2048 c = few-large _ c.loop-n.n-index c.loop-n-test.true c.if-n-gt2048.true c.loop-n.invariant

pub loop-n-preserved : goal.loop-n-preserved
loop-n-preserved c = few-step _ c.loop-n.n-index c.loop-n-test.true c.if-n-gt2048.false ∙ c.loop-n.invariant

pub returns : goal.returns
returns c = few-end _ c.loop-n.n-index c.if-lengths-gt64.false c.loop-n-test.false c.loop-n.invariant
