-- `words_of` meets its contract.
use Rattle.std.proofs.Common.{le-ltb, lt-ltb}
use Rattle.calls_defined.proofs.told.words_of.Goals as goal

pub returns-then-records-lt1000000000 : goal.returns-then-records-lt1000000000
returns-then-records-lt1000000000 c = simp (lt-ltb _ _ c.if-records-lt1000000000.true)

pub returns-else-records-lt1000000000 : goal.returns-else-records-lt1000000000
returns-else-records-lt1000000000 c = simp (le-ltb _ _ c.if-records-lt1000000000.false)
