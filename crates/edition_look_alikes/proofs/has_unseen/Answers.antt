use Rattle.std.specs.Prelude.{chars}
use Rattle.std.specs.List.{list_any}
use Rattle.std.proofs.Common.{◌∙◌, ap}
use Rattle.edition_look_alikes.specs.Alike.{isUnseen}
use Rattle.edition_look_alikes.proofs.Tests.{unseen_no_text, unseen_in}
use Rattle.edition_look_alikes.proofs.has_unseen.Goals as goal

pub returns-in-Ok : goal.returns-in-Ok
returns-in-Ok c =
    let text = c.in-Ok.ensures.cases in
    c.any_unseen.ensures ∙ ap (λ n. list_any isUnseen (chars n)) text.0 ∙ unseen_in _ text.1

pub returns-in-Err : goal.returns-in-Err
returns-in-Err c = unseen_no_text _ c.in-Err.ensures.cases.0
