use Prim.Native.Nat.{◌-◌}
use lib.ListN.{length}
use Rattle.text_sheet.specs.Loop.{Along}
use Rattle.text_sheet.proofs.inner.read_lines.Given as goal

abbrev pub invariant-loop-line : goal.invariant-loop-line
invariant-loop-line l =
    Along l.text l.initial.pool l.initial.table l.initial.dst l.at l.lines l.tally.names l.tally.records l.constraints l.pool l.table l.dst

abbrev pub decreases-loop-line : goal.decreases-loop-line
decreases-loop-line l =
    length l.text - l.at
