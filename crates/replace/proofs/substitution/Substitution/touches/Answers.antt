-- `touches` meets its contract. The invariant: the records from i on decide.
use Rattle.std.proofs.Common.{ap, sym, ◌∙◌}
use Rattle.rules.specs.Base.{any}
use Rattle.queries.proofs.ScanLaws.{opens-none}
use Rattle.replace.specs.Leaves.{replaced}
use Rattle.replace.proofs.Touches.{hit, miss}
use Rattle.replace.proofs.substitution.Substitution.touches.Goals as goal

pub returns-then-changes : goal.returns-then-changes
returns-then-changes c =
    let a = c.args in
    sym (hit a.self.lent.0 a.s.now c.loop-i.i a.e c.loop-i-test.true (sym c.changes.ensures ∙ c.if-changes.true)) ∙ c.loop-i.invariant

pub loop-i-preserved : goal.loop-i-preserved
loop-i-preserved c =
    let a = c.args in
    sym (miss a.self.lent.0 a.s.now c.loop-i.i a.e c.loop-i-test.true (sym c.changes.ensures ∙ c.if-changes.false)) ∙ c.loop-i.invariant

pub returns : goal.returns
unfolding any
returns c =
    let a = c.args in
    sym (ap (any (replaced a.self.lent.0)) (opens-none a.s.now c.loop-i.i a.e c.loop-i-test.false)) ∙ c.loop-i.invariant
