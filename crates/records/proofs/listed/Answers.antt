-- `listed` meets its contract.
use borrow.Author.Tests.{eq-eqb, ne_eqb}
use Rattle.records.proofs.listed.Goals as goal

pub returns-then-words-ne0 : goal.returns-then-words-ne0
returns-then-words-ne0 c = simp (ne_eqb _ _ c.if-words-ne0.true)

pub returns-then-good : goal.returns-then-good
returns-then-good c = simp (eq-eqb _ _ c.if-words-ne0.false, c.if-good.true)

pub returns-else-good : goal.returns-else-good
returns-else-good c = simp (eq-eqb _ _ c.if-words-ne0.false, c.if-good.false)
