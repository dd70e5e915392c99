-- The contract leaves no choice, and the answer has the number of its outcome.
use Rattle.rules.specs.Lines.{checkLineCall}
use Rattle.records_buffers.proofs.Determined.{written-determined, written-numbered}
use Rattle.lines.specs.Theorems.{CheckLineDetermined, CheckLineNumbered}

pub check-line-determined : CheckLineDetermined
check-line-determined pool table steps types lines names result work =
    written-determined (checkLineCall pool table steps types lines names result work)

pub check-line-numbered : CheckLineNumbered
check-line-numbered pool table steps types lines names result work =
    written-numbered (checkLineCall pool table steps types lines names result work)
