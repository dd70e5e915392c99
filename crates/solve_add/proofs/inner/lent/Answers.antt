-- `inner::lent` meets its contract.
use borrow.Author.Tests.{le-leb, lt-leb}
use Rattle.rules.specs.Names.{lentTable}
use Rattle.rules.specs.Calls.{lentResult}
use Rattle.solve_add.proofs.inner.lent.Goals as goal
use Rattle.solve_add.proofs.inner.lent.Goals.{
  then-pool-lt-POOL_BYTES-via-then-pool-lt-POOL_BYTES,
  then-pool-lt-POOL_BYTES-via-else-pool-lt-POOL_BYTES+then-table-lt-TABLE_WORDS,
}

pub returns-then-pool-lt-POOL_BYTES : goal.returns-then-pool-lt-POOL_BYTES
unfolding lentTable lentResult
returns-then-pool-lt-POOL_BYTES c = elim c.then-pool-lt-POOL_BYTES.branch [
  | then-pool-lt-POOL_BYTES-via-then-pool-lt-POOL_BYTES w ↦ simp (lt-leb _ _ w.if-pool-lt-POOL_BYTES.true)
  | then-pool-lt-POOL_BYTES-via-else-pool-lt-POOL_BYTES+then-table-lt-TABLE_WORDS w ↦
      simp (le-leb _ _ w.if-pool-lt-POOL_BYTES.false, lt-leb _ _ w.if-table-lt-TABLE_WORDS.true)
]

pub returns : goal.returns
unfolding lentTable lentResult
returns c = simp (le-leb _ _ c.if-pool-lt-POOL_BYTES.false, le-leb _ _ c.if-table-lt-TABLE_WORDS.false)
