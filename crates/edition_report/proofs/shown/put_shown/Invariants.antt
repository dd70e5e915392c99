use Rattle.std.specs.Prelude.{Ok, map}
use Rattle.std.proofs.Common.{take}
use Rattle.rules.specs.Reports.{shown}
use Rattle.text_spell.specs.Sinks.{Puts}
use Rattle.edition_report.proofs.shown.put_shown.Given as goal

abbrev pub invariant-loop-b : goal.invariant-loop-b
invariant-loop-b g l = Puts {E = g.row.S-Error.Denot} (g.S.Sink.place l.initial.to) (map shown (take l.b-index l.text)) (Ok tt) (g.S.Sink.place l.to)
