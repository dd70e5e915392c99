use Rattle.edition_look_alikes.proofs.Tests.{first_no_text, second_no_text, if_matched}
use Rattle.edition_look_alikes.proofs.is_alike.Goals as goal

pub returns-in-Ok-Ok : goal.returns-in-Ok-Ok
returns-in-Ok-Ok c =
    let first = c.in-Ok-Ok.ensures.cases in
    let second = c.in-Ok-Ok.ensures'.cases in
    if_matched _ _ first.1 second.1 _ (rw (first.0, second.0) at c.compatibility_caseless_match_str.ensures.value)

pub returns-in_default : goal.returns-in_default
returns-in_default c = second_no_text _ _ c.in_default.ensures.cases.1 c.in_default.ensures'.cases.0

pub returns-in_default-2 : goal.returns-in_default-2
returns-in_default-2 c = first_no_text _ _ c.in_default.ensures.cases.0
