-- `word_at` meets its contract.
use borrow.Author.Tests.{lt-ltb, le-ltb}
use Rattle.serve_replies.specs.Bytes.{word_at}
use Rattle.serve_replies.proofs.coding.word_at.Goals as goal

pub returns-then-s-lt4 : goal.returns-then-s-lt4
unfolding word_at
returns-then-s-lt4 c = simp (lt-ltb _ _ c.if-s-lt4.true)

pub returns-then-s-at : goal.returns-then-s-at
unfolding word_at
returns-then-s-at c = simp (le-ltb _ _ c.if-s-lt4.false, lt-ltb _ _ c.if-s-at.true)

pub returns : goal.returns
unfolding word_at
returns c = simp (le-ltb _ _ c.if-s-lt4.false, le-ltb _ _ c.if-s-at.false)
