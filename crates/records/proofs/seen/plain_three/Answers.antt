-- `plain_three` meets its contract.
use borrow.Author.Tests.{eq-eqb, ne_eqb}
use Rattle.rules.specs.Base.{all}
use Rattle.records.specs.Views.{plain}
use Rattle.records.proofs.seen.plain_three.Goals as goal

pub returns-then-a-eq0 : goal.returns-then-a-eq0
unfolding plain all
returns-then-a-eq0 c = simp (eq-eqb _ _ c.if-a-eq0.true) c.plain_two.ensures

pub returns-else-a-eq0 : goal.returns-else-a-eq0
unfolding plain all
returns-else-a-eq0 c = simp (ne_eqb _ _ c.if-a-eq0.false)
