use Rattle.std.specs.Prelude.{Ok}
use Rattle.std.proofs.Common.{take}
use Rattle.rules.specs.Base.{collect}
use Rattle.rules.specs.Reports.{room}
use Rattle.text_spell.specs.Sinks.{Puts}
use Rattle.edition_report.proofs.shown.put_rooms.Given as goal

abbrev pub invariant-loop-b : goal.invariant-loop-b
invariant-loop-b g l = Puts {E = g.row.S-Error.Denot} (g.S.Sink.place l.initial.to) (collect room (take l.b-index l.part)) (Ok tt) (g.S.Sink.place l.to)
