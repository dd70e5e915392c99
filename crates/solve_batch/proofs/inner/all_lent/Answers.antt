-- `inner::all_lent` meets its contract.
use native.Mathlib.Omega.{arith}
use Rattle.solve_batch.proofs.Checks.{short-pool, short-table, short-result, short-answers, long_rest}
use Rattle.solve_batch.proofs.inner.all_lent.Goals as goal

pub returns-then-pool-lt-POOL_BYTES : goal.returns-then-pool-lt-POOL_BYTES
returns-then-pool-lt-POOL_BYTES c = short-pool _ _ _ _ _ _ c.if-pool-lt-POOL_BYTES.true

pub returns-then-table-lt-TABLE_WORDS : goal.returns-then-table-lt-TABLE_WORDS
returns-then-table-lt-TABLE_WORDS c = short-table _ _ _ _ _ _ c.if-table-lt-TABLE_WORDS.true

pub returns-then-res-lengths : goal.returns-then-res-lengths
returns-then-res-lengths c = short-result _ _ _ _ _ _ c.if-pool-lt-POOL_BYTES.false c.if-table-lt-TABLE_WORDS.false (omega arith)

pub returns-then-answers-lengths : goal.returns-then-answers-lengths
returns-then-answers-lengths c = short-answers _ _ _ _ _ _ c.if-pool-lt-POOL_BYTES.false c.if-table-lt-TABLE_WORDS.false (omega arith) (omega arith)

pub returns : goal.returns
returns c = long_rest _ _ _ _ _ _ c.if-pool-lt-POOL_BYTES.false c.if-table-lt-TABLE_WORDS.false (omega arith) (omega arith)
