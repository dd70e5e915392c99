use Rattle.std.specs.Prelude.{Ok}
use Rattle.std.proofs.Common.{take}
use Rattle.rules.specs.Base.{collect}
use Rattle.text_spell.specs.Sinks.{Puts}
use Rattle.edition_html.specs.Pages.{pageByte}
use Rattle.edition_html.proofs.put_text.Given as goal

abbrev pub invariant-loop-b : goal.invariant-loop-b
invariant-loop-b g l =
    Puts {E = g.row.S-Error.Denot} (g.S.Sink.place l.initial.to) (collect (pageByte l.whole) (take l.b-index l.text)) (Ok tt) (g.S.Sink.place l.to)
