-- The file is lent.
use Rattle.edition_told.proofs.telling.Telling.one.Goals as goal

pub returns : goal.returns
returns c = rw (c.file.ensures.name, c.file.ensures.text) at c.add.ensures
