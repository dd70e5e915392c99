-- `names::inner::is_good` meets its contract: each return is a part of the test.
use mathlib.Core.Path.{sym, ◌∙◌}
use Prim.Native.Nat.{◌≤◌}
use native.Mathlib.Omega.{arith}
use borrow.Author.Tests.{le-leb, lt-leb}
use lib.ListN.{get_or}
use Rattle.laws.proofs.NameTable.{good-is}
use Rattle.names.proofs.inner.is_good.Goals as goal
use Rattle.names.proofs.inner.is_good.Goals.{then-table-gt-NAMES-via-then-table-gt-NAMES, then-table-gt-NAMES-via-else-table-gt-NAMES+then-not-lengths_good}

pub returns-then-table-gt-NAMES : goal.returns-then-table-gt-NAMES
returns-then-table-gt-NAMES c =
    let a = c.args in
    elim c.then-table-gt-NAMES.branch [
      | then-table-gt-NAMES-via-then-table-gt-NAMES w ↦ rw (good-is a.pool.now a.table.now, lt-leb (get_or a.table.now 0 0) 256 w.if-table-gt-NAMES.true)
      | then-table-gt-NAMES-via-else-table-gt-NAMES+then-not-lengths_good w ↦
          rw (good-is a.pool.now a.table.now, le-leb (get_or a.table.now 0 0) 256 (omega arith), sym w.lengths_good.ensures ∙ w.if-not-lengths_good.true)
    ]

pub all_distinct-requires : goal.all_distinct-requires
all_distinct-requires c =
    let few : get_or c.args.table.now 0 0 ≤ 256 = omega arith in
    record { bytes = c.requires.pool_long; words = c.requires.table_long; few = few; rising = sym c.lengths_good.ensures ∙ c.if-not-lengths_good.false }

pub returns : goal.returns
returns c =
    let a = c.args in
    let few : get_or a.table.now 0 0 ≤ 256 = omega arith in
    rw (good-is a.pool.now a.table.now, le-leb _ _ few, sym c.lengths_good.ensures ∙ c.if-not-lengths_good.false) c.all_distinct.ensures
