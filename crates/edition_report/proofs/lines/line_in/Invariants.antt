use Rattle.std.specs.Prelude.{◌-◌}
use Rattle.edition_report.proofs.Ahead.{Ahead}
use Rattle.edition_report.proofs.lines.line_in.Given as goal

abbrev pub invariant-loop-before : goal.invariant-loop-before
invariant-loop-before l = Ahead l.text l.number l.at (l.number - l._before)
