-- `lent` meets its contract.
use Rattle.records_buffers.proofs.OnLent.{short-pool, short-table, short-result, long_rest}
use Rattle.records_buffers.proofs.lent.Goals as goal
use Rattle.records_buffers.proofs.lent.Goals.{
  then-pool-lt-POOL_BYTES-via-then-pool-lt-POOL_BYTES,
  then-pool-lt-POOL_BYTES-via-else-pool-lt-POOL_BYTES+then-table-lt-TABLE_WORDS,
  then-pool-lt-POOL_BYTES-via-else-pool-lt-POOL_BYTES+else-table-lt-TABLE_WORDS+then-res-lt-RECORD_WORDS,
}

pub returns-then-pool-lt-POOL_BYTES : goal.returns-then-pool-lt-POOL_BYTES
returns-then-pool-lt-POOL_BYTES c = elim c.then-pool-lt-POOL_BYTES.branch [
  | then-pool-lt-POOL_BYTES-via-then-pool-lt-POOL_BYTES w ↦ short-pool _ _ _ _ w.if-pool-lt-POOL_BYTES.true
  | then-pool-lt-POOL_BYTES-via-else-pool-lt-POOL_BYTES+then-table-lt-TABLE_WORDS w ↦ short-table _ _ _ _ w.if-table-lt-TABLE_WORDS.true
  | then-pool-lt-POOL_BYTES-via-else-pool-lt-POOL_BYTES+else-table-lt-TABLE_WORDS+then-res-lt-RECORD_WORDS w ↦ short-result _ _ _ _
      w.if-res-lt-RECORD_WORDS.true
]

pub returns : goal.returns
returns c = long_rest _ _ _ _ c.if-pool-lt-POOL_BYTES.false c.if-table-lt-TABLE_WORDS.false c.if-res-lt-RECORD_WORDS.false
