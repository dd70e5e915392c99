-- `name_word` meets its contract.
use native.Mathlib.Omega.{arith}
use borrow.Author.Tests.{lt-ltb, le-ltb}
use Rattle.replace.proofs.inner.bound.name_word.Goals as goal

pub returns-then-x-lt256 : goal.returns-then-x-lt256
returns-then-x-lt256 c = rw (lt-ltb c.args.x 256 c.if-x-lt256.true) c.word_at.ensures

pub returns-else-x-lt256 : goal.returns-else-x-lt256
returns-else-x-lt256 c = rw (le-ltb c.args.x 256 (omega (arith, c.if-x-lt256.false)))
