use borrow.Author.Tests.{lt-leb, le-leb}
use lib.ListN.{length}
use Rattle.rules.specs.Calls.{lentWork}
use Rattle.rules.specs.Names.{lentTable}
use Rattle.judge.proofs.inner.lent.Goals as goal
use Rattle.judge.proofs.inner.lent.Goals.{
  then-pool-lt-POOL_BYTES-via-then-pool-lt-POOL_BYTES,
  then-pool-lt-POOL_BYTES-via-else-pool-lt-POOL_BYTES+then-table-lt-TABLE_WORDS,
}

pub returns-then-pool-lt-POOL_BYTES : goal.returns-then-pool-lt-POOL_BYTES
unfolding lentTable lentWork
returns-then-pool-lt-POOL_BYTES c = elim c.then-pool-lt-POOL_BYTES.branch [
  | then-pool-lt-POOL_BYTES-via-then-pool-lt-POOL_BYTES w ↦
      rw (lt-leb 8192 (length c.args.pool.now) w.if-pool-lt-POOL_BYTES.true)
  | then-pool-lt-POOL_BYTES-via-else-pool-lt-POOL_BYTES+then-table-lt-TABLE_WORDS w ↦
      rw (le-leb 8192 (length c.args.pool.now) w.if-pool-lt-POOL_BYTES.false, lt-leb 257 (length c.args.table.now) w.if-table-lt-TABLE_WORDS.true)
]

pub returns : goal.returns
unfolding lentTable lentWork
returns c = rw (le-leb 8192 (length c.args.pool.now) c.if-pool-lt-POOL_BYTES.false, le-leb 257 (length c.args.table.now) c.if-table-lt-TABLE_WORDS.false)
