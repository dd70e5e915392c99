use Rattle.std.proofs.Common.{◌∙◌, ◌++◌, ap, sym}
use Rattle.std.proofs.lemmas.Iterator.{YieldsList-from_chars as from_chars}
use Rattle.std.proofs.lemmas.Iterator.Consumers.{YieldsList-end}
use Rattle.std.proofs.lemmas.List.{map-id}
use Rattle.std.specs.List.{flat_map}
use Rattle.std.specs.String.{string_bytes}
use Rattle.edition_notes.specs.Shown.{shownChar}
use Rattle.edition_notes.proofs.shown.push_chars.Goals as goal

pub returns : goal.returns
returns c =
    let told = YieldsList-end (from_chars c.args.text.now c.utf8.text cc) c.loop-c.yielded _ c.loop-c.yielded_by _ _ c.in-None.is c.next.ensures.steps in
    c.loop-c.invariant ∙ ap (λ cs. string_bytes c.args.out.now ++ flat_map shownChar cs) (sym (map-id c.loop-c.yielded) ∙ told.0)
