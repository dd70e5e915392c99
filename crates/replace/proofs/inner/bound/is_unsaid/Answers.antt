use Rattle.std.proofs.Common.{sym}
use borrow.Author.Tests.{eq-eqb, ne_eqb}
use Rattle.replace.specs.Places.{unsaid}
use Rattle.replace.proofs.inner.bound.is_unsaid.Goals as goal

pub returns-then-word_of-ne0 : goal.returns-then-word_of-ne0
unfolding unsaid
returns-then-word_of-ne0 c = rw (sym c.word_of.ensures, ne_eqb c.word_of.result 0 c.if-word_of-ne0.true)

pub returns-then-word_of-ne0-2 : goal.returns-then-word_of-ne0-2
unfolding unsaid
returns-then-word_of-ne0-2 c = rw (
  sym c.word_of.ensures,
  sym c.word_of-2.ensures,
  eq-eqb c.word_of.result 0 c.if-word_of-ne0.false,
  ne_eqb c.word_of-2.result 0 c.if-word_of-ne0-2.true,
)

pub returns : goal.returns
unfolding unsaid
returns c = rw (
  sym c.word_of.ensures,
  sym c.word_of-2.ensures,
  sym c.word_of-3.ensures,
  eq-eqb c.word_of.result 0 c.if-word_of-ne0.false,
  eq-eqb c.word_of-2.result 0 c.if-word_of-ne0-2.false,
)
