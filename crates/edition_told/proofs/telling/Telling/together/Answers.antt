-- The files are lent.
use Rattle.edition_told.proofs.telling.Telling.together.Goals as goal

pub returns : goal.returns
returns c = rw (c.deref.ensures.value, c.in_ok-files.ensures) at c.add.ensures
