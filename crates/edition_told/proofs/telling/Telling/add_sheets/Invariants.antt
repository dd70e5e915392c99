use Rattle.rules.specs.Names.{table_of}
use Rattle.edition_told.proofs.Counting.{CountedSoFar}
use Rattle.edition_told.proofs.telling.Telling.add_sheets.Given as goal

abbrev pub invariant-loop-sheet : goal.invariant-loop-sheet
invariant-loop-sheet l = CountedSoFar (table_of l.names.pool.now l.names.table.now) l.sheets l.sheet-index l.accepted
