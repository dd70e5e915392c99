-- `inner::line_end` meets its contract: no line feed so far.
use Rattle.std.specs.Prelude.{◌≡◌, length}
use Rattle.std.proofs.Common.{arith}
use Rattle.text_columns.proofs.Cut.{starts, goes_on, at-feed, at-end}
use Rattle.text_columns.proofs.inner.line_end.Goals as goal

pub loop-i-init : goal.loop-i-init
loop-i-init c = starts _ _ c.requires

pub returns-then-text-i-eq10 : goal.returns-then-text-i-eq10
returns-then-text-i-eq10 c = at-feed _ _ c.loop-i.invariant c.loop-i-test.true c.if-text-i-eq10.true

pub loop-i-preserved : goal.loop-i-preserved
loop-i-preserved c = goes_on _ _ c.loop-i.invariant c.loop-i-test.true c.if-text-i-eq10.false

pub returns : goal.returns
returns c =
    let end : length c.args.text.now ≡ c.loop-i.i = omega (arith, c.loop-i.invariant.within, c.loop-i-test.false) in
    rw end (at-end _ _ c.loop-i.invariant (omega arith))
