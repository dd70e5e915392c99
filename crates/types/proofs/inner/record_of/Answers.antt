-- `inner::record_of` meets its contract.
use Rattle.std.proofs.Common.{arith}
use Rattle.rules.specs.Values.{atomIn}
use Rattle.rules.specs.Writing.{writeFactor}
use Rattle.types.proofs.Factors.{last-kind}
use Rattle.types.proofs.inner.record_of.Goals as goal

pub returns-in-11 : goal.returns-in-11
unfolding writeFactor atomIn
returns-in-11 c = rw (c.in-11.is, c.num_word-num.ensures)

pub returns-in-12 : goal.returns-in-12
unfolding writeFactor atomIn
returns-in-12 c = rw (c.in-12.is, c.num_word-num.ensures)

pub returns-in-15 : goal.returns-in-15
unfolding writeFactor atomIn
returns-in-15 c = rw (c.in-15.is, c.num_word-num.ensures)

pub returns-in_default : goal.returns-in_default
unfolding writeFactor atomIn
returns-in_default c =
    rw (last-kind c.requires (omega arith) (omega arith) (omega arith), c.num_word-num.ensures)
