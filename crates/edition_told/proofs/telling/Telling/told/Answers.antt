-- What is told is accepted where its finding is.
use Rattle.edition_told.proofs.telling.Telling.told.Goals as goal

pub returns : goal.returns
returns c = λ p i. c.is_accepted.ensures _ _ (c.in_ok-outcome.ensures.found p i)
