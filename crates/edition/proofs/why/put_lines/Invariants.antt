use Rattle.std.specs.Prelude.{Ok}
use Rattle.std.proofs.Common.{take}
use Rattle.rules.specs.Base.{collect}
use Rattle.text_spell.specs.Sinks.{Puts}
use Rattle.edition.specs.Why.{whyLine}
use Rattle.edition.proofs.why.put_lines.Given as goal

abbrev pub invariant-loop-place : goal.invariant-loop-place
invariant-loop-place g l =
    Puts {E = g.row.S-Error.Denot} (g.S.Sink.place l.initial.to) (collect (whyLine l.name l.text) (take l.place-index l.places)) (Ok tt) (g.S.Sink.place l.to)
