-- The invariant: the first of the names so far.
use mathlib.Core.Path.{◌≡◌}
use native.Mathlib.Omega.{arith}
use lib.ListN.{get_or}
use Rattle.rules.specs.Names.{table_of, names_of}
use Rattle.laws.proofs.ByteOrder.{numbered-lawful}
use Rattle.laws.proofs.NameTable.{held_tells}
use Rattle.records.specs.Good.{numbers}
use Rattle.queries.proofs.SortMarks.{least-none, skipped, taken}
use Rattle.queries.proofs.name_set.NameSet.first.Goals as goal
use Rattle.queries.proofs.name_set.NameSet.first.Goals.{then-self-i, else-self-i}

pub loop-i-init : goal.loop-i-init
loop-i-init c =
    let a = c.args in
    let g = a.names.good in
    let h = c.requires in
    let law = numbered-lawful (names_of (table_of a.names.pool.now a.names.table.now)) in
    let nu = numbers a.names.pool.now a.names.table.now in
    let n = get_or a.names.table.now 0 0 in
    (omega arith, least-none nu law n (held_tells g) a.self.now.marks h)

pub loop-i-preserved : goal.loop-i-preserved
loop-i-preserved c =
    let a = c.args in
    let g = a.names.good in
    let h = c.requires in
    let law = numbered-lawful (names_of (table_of a.names.pool.now a.names.table.now)) in
    let nu = numbers a.names.pool.now a.names.table.now in
    let n = get_or a.names.table.now 0 0 in (
      omega arith,
      elim c.if-self-i.branch [
        | then-self-i w ↦ rw (w.best-is, w.sooner-best.ensures)
            (taken nu law n (held_tells g) a.self.now.marks h c.loop-i.i c.loop-i-test.true w.if-self-i.true c.loop-i.best c.loop-i.invariant.1)
        | else-self-i w ↦ rw w.best-is (skipped nu law n (held_tells g) a.self.now.marks h c.loop-i.i w.if-self-i.false c.loop-i.best c.loop-i.invariant.1)
      ],
    )

pub returns : goal.returns
returns c = let e : c.loop-i.i ≡ 256 = omega arith in rw e at c.loop-i.invariant.1
