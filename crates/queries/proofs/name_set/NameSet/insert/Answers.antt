use Rattle.queries.proofs.MarkLaws.{mark-put, mark-out}
use Rattle.queries.proofs.name_set.NameSet.insert.Goals as goal

pub returns-then-i-lt-NAMES : goal.returns-then-i-lt-NAMES
returns-then-i-lt-NAMES c = λ xs k. mark-put _ xs k _ c.if-i-lt-NAMES.true

pub returns-else-i-lt-NAMES : goal.returns-else-i-lt-NAMES
returns-else-i-lt-NAMES c = λ xs k. mark-out _ xs k _ c.if-i-lt-NAMES.false
