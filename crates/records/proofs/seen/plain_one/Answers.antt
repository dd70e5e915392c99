-- `plain_one` meets its contract.
use borrow.Author.Tests.{eq-eqb, ne_eqb}
use Rattle.rules.specs.Base.{all}
use Rattle.records.specs.Views.{plain}
use Rattle.records.proofs.seen.plain_one.Goals as goal

pub returns-then-c-eq0 : goal.returns-then-c-eq0
unfolding plain all
returns-then-c-eq0 c = simp (eq-eqb _ _ c.if-c-eq0.true)

pub returns-else-c-eq0 : goal.returns-else-c-eq0
unfolding plain all
returns-else-c-eq0 c = simp (ne_eqb _ _ c.if-c-eq0.false)
