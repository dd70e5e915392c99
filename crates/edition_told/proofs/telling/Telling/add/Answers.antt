-- The sheets of files, over a table without names.
use Rattle.std.proofs.Common.{rules}
use Rattle.edition_told.proofs.Counting.{edition-counted}
use Rattle.edition_told.proofs.telling.Telling.add.Goals as goal

pub returns : goal.returns
returns c =
    let names = c.in_ok-names.ensures in
    edition-counted c.args.files.now c.in_ok-sheets.sheets.items _ _ _ _ c.in_ok-tables.ensures.pool c.in_ok-tables.ensures.table c.in_ok-sheets.ensures
    (search rules) (rw (c.deref.ensures.value, names.0, names.1) at c.in_ok-accepted.ensures)
