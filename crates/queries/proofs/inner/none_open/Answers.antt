-- `inner::none_open` meets its contract. The invariant: the records from i on decide.
use mathlib.Core.Path.{sym, ap, ◌∙◌}
use Rattle.rules.specs.Base.{isNil}
use Rattle.queries.proofs.ScanLaws.{opens-none}
use Rattle.queries.proofs.Others.{open-here, none-here}
use Rattle.queries.proofs.inner.none_open.Goals as goal

pub returns-then-is_some : goal.returns-then-is_some
returns-then-is_some c =
    let a = c.args in
    sym (open-here a.s.now c.loop-i.i a.e c.loop-i-test.true c.opens_at.result c.opens_at.ensures c.if-is_some.ensures) ∙ c.loop-i.invariant

pub loop-i-preserved : goal.loop-i-preserved
loop-i-preserved c =
    let a = c.args in
    sym (none-here a.s.now c.loop-i.i a.e c.loop-i-test.true c.opens_at.result c.opens_at.ensures c.if-is_some.ensures) ∙ c.loop-i.invariant

pub returns : goal.returns
returns c =
    let a = c.args in
    sym (ap isNil (opens-none a.s.now c.loop-i.i a.e c.loop-i-test.false)) ∙ c.loop-i.invariant
