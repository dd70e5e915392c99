use Rattle.calls.proofs.Names.{named-held, named-none}
use Rattle.calls.proofs.named.named.Goals as goal

pub returns-in-Ok : goal.returns-in-Ok
returns-in-Ok c =
    named-held _ _ _ _ _ _ c.name_of-name.ensures.bytes c.fill_words.ensures (rw c.in-Ok.is at c.check_number.ensures) c.said.ensures

pub returns-in-Err : goal.returns-in-Err
returns-in-Err c =
    named-none _ _ _ _ _ _ c.name_of-name.ensures.bytes c.fill_words.ensures _ (rw c.in-Err.is at c.check_number.ensures) c.refused.ensures
