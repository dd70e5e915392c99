-- Each run takes words of the list.
use Rattle.std.proofs.Common.{length}
use Rattle.sheets_run.proofs.case.runs.Given as goal

abbrev pub decreases-loop-rest : goal.decreases-loop-rest
decreases-loop-rest l = length l.rest
