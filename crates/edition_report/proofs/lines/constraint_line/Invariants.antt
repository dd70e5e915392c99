use Rattle.std.proofs.Common.{◌-◌, length}
use Rattle.edition_report.proofs.Ahead.{Holding}
use Rattle.edition_report.proofs.lines.constraint_line.Given as goal

abbrev pub invariant-loop-k : goal.invariant-loop-k
invariant-loop-k l = Holding l.text l.k l.lines l.at l.left

abbrev pub decreases-loop-k : goal.decreases-loop-k
decreases-loop-k l = length l.text - l.at
