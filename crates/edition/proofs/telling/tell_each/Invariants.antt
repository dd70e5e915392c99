use Rattle.rules.specs.Names.{table_of}
use Rattle.edition.proofs.Told.{ToldSoFar}
use Rattle.edition.specs.Why.{pageTold}
use Rattle.edition.proofs.telling.tell_each.Given as goal

abbrev pub invariant-loop-sheet : goal.invariant-loop-sheet
invariant-loop-sheet g l = ToldSoFar (pageTold l.how.why l.how.shown (table_of l.names.pool.now l.names.table.now))
    (table_of l.names.pool.now l.names.table.now) (g.S.Sink.place l.initial.to) l.sheets l.sheet-index
    l.accepted (g.S.Sink.place l.to) g.row.S-Error.Denot
