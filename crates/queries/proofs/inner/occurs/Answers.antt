-- `inner::occurs` meets its contract. The invariant: the records from i on decide.
use mathlib.Core.Path.{sym, ap, ◌∙◌}
use lib.Dec.{eqb}
use Rattle.rules.specs.Base.{any}
use Rattle.queries.specs.Scans.{choose}
use Rattle.queries.proofs.ScanLaws.{opens-none, choose-none, any-hit, any-miss}
use Rattle.queries.proofs.Others.{name-is}
use Rattle.queries.proofs.inner.occurs.Goals as goal

pub returns-then-eq : goal.returns-then-eq
returns-then-eq c =
    let a = c.args in
    let here = ap (any (eqb a.x)) (sym c.name_at.ensures) ∙ name-is a.x c.name_at.result ∙ sym c.if-eq.ensures in
    sym (any-hit a.s.now c.loop-i.i a.e c.loop-i-test.true a.k (eqb a.x) here) ∙ c.loop-i.invariant

pub loop-i-preserved : goal.loop-i-preserved
loop-i-preserved c =
    let a = c.args in
    let here = ap (any (eqb a.x)) (sym c.name_at.ensures) ∙ name-is a.x c.name_at.result ∙ sym c.if-eq.ensures in
    sym (any-miss a.s.now c.loop-i.i a.e c.loop-i-test.true a.k (eqb a.x) here) ∙ c.loop-i.invariant

pub returns : goal.returns
unfolding any
returns c =
    let a = c.args in
    sym (ap (any (eqb a.x)) (ap (choose a.k) (opens-none a.s.now c.loop-i.i a.e c.loop-i-test.false) ∙ choose-none a.k)) ∙ c.loop-i.invariant
