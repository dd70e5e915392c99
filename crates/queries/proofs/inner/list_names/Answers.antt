-- `inner::list_names` meets its contract: by what the marks say.
use mathlib.Core.List.{[]}
use lib.ListN.{get_or}
use Rattle.rules.specs.Names.{table_of, names_of}
use Rattle.laws.proofs.ByteOrder.{numbered-lawful}
use Rattle.laws.proofs.NameTable.{good-laid, held_tells}
use Rattle.records.specs.Good.{numbers}
use Rattle.queries.specs.Scans.{choose, opensIn}
use Rattle.queries.proofs.SortMarks.{marks-held, marks-sort}
use Rattle.queries.proofs.inner.list_names.Goals as goal

pub write_sorted-requires : goal.write_sorted-requires
write_sorted-requires c =
    let a = c.args in
    let g = a.names.good in
    let n = get_or a.names.table.now 0 0 in
    let xs = choose a.k (opensIn a.s.now a.b a.e) in
    let k = c.extend.ensures [] c.new-found.ensures in
    record { held = marks-held n (good-laid g).few _ xs k c.requires.every; room = c.requires.room }

pub returns : goal.returns
returns c =
    let a = c.args in
    let g = a.names.good in
    let n = get_or a.names.table.now 0 0 in
    let xs = choose a.k (opensIn a.s.now a.b a.e) in
    let k = c.extend.ensures [] c.new-found.ensures in
    rw (marks-sort n (good-laid g).few _ xs k c.requires.every (numbers a.names.pool.now a.names.table.now)
    (numbered-lawful (names_of (table_of a.names.pool.now a.names.table.now))) (held_tells g)) at c.write_sorted.ensures
