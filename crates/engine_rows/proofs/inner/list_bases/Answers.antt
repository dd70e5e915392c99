-- `inner::list_bases` meets its contract: by what the marks say.
use lib.ListN.{get_or}
use Rattle.rules.specs.Names.{table_of, names_of}
use Rattle.laws.proofs.ByteOrder.{numbered-lawful}
use Rattle.laws.proofs.NameTable.{good-laid, held_tells}
use Rattle.records.specs.Good.{numbers}
use Rattle.queries.proofs.SortMarks.{marks-held, marks-sort}
use Rattle.engine_rows.specs.Columns.{basesIn}
use Rattle.engine_rows.proofs.inner.list_bases.Goals as goal

pub write_sorted-requires-clause-held : goal.write_sorted-requires-clause-held
write_sorted-requires-clause-held c =
    let g = c.args.names.good in
    marks-held (get_or c.args.names.table.now 0 0) (good-laid g).few _ (basesIn c.args.s.now 0 c.args.e) (c.base_names.ensures) c.requires.held

pub returns : goal.returns
returns c =
    let a = c.args in
    let g = c.args.names.good in
    rw (marks-sort (get_or a.names.table.now 0 0) (good-laid g).few _ (basesIn a.s.now 0 a.e) (c.base_names.ensures) c.requires.held
    (numbers a.names.pool.now a.names.table.now) (numbered-lawful (names_of (table_of a.names.pool.now a.names.table.now))) (held_tells g)) at
    c.write_sorted.ensures
