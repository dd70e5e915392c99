use Rattle.std.specs.Prelude.{Ok}
use Rattle.std.proofs.Common.{take}
use Rattle.rules.specs.TextWriting.{nameText}
use Rattle.text_spell.specs.Sinks.{Puts}
use Rattle.text_spell.proofs.put_name.Given as goal

abbrev pub invariant-loop-b : goal.invariant-loop-b
invariant-loop-b g l = Puts {E = g.row.S-Error.Denot} (g.S.Sink.place l.initial.to) (nameText (take l.b-index l.name)) (Ok tt) (g.S.Sink.place l.to)
