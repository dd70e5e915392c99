-- `plain_two` meets its contract.
use borrow.Author.Tests.{eq-eqb, ne_eqb}
use Rattle.rules.specs.Base.{all}
use Rattle.records.specs.Views.{plain}
use Rattle.records.proofs.seen.plain_two.Goals as goal

pub returns-then-b-eq0 : goal.returns-then-b-eq0
unfolding plain all
returns-then-b-eq0 c = simp (eq-eqb _ _ c.if-b-eq0.true) c.plain_one.ensures

pub returns-else-b-eq0 : goal.returns-else-b-eq0
unfolding plain all
returns-else-b-eq0 c = simp (ne_eqb _ _ c.if-b-eq0.false)
