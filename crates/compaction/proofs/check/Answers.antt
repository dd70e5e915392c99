-- `check` meets its contract.
use Rattle.std.proofs.Common.{sym, ap, ◌∙◌, Bool, not}
use Rattle.rules.specs.Base.{need}
use Rattle.compaction.proofs.Checks.{short-pool, short-table, too_large, bad-table, checked}
use Rattle.compaction.proofs.check.Goals as goal
use Rattle.compaction.proofs.check.Goals.{then-pool-lt-POOL_BYTES-via-then-pool-lt-POOL_BYTES}
use Rattle.compaction.proofs.check.Goals.{then-pool-lt-POOL_BYTES-via-else-pool-lt-POOL_BYTES+then-table-lt-TABLE_WORDS}

pub returns-then-pool-lt-POOL_BYTES : goal.returns-then-pool-lt-POOL_BYTES
returns-then-pool-lt-POOL_BYTES c = elim c.then-pool-lt-POOL_BYTES.branch [
  | then-pool-lt-POOL_BYTES-via-then-pool-lt-POOL_BYTES w ↦ short-pool _ _ _ _ w.if-pool-lt-POOL_BYTES.true
  | then-pool-lt-POOL_BYTES-via-else-pool-lt-POOL_BYTES+then-table-lt-TABLE_WORDS w ↦ short-table _ _ _ _ w.if-table-lt-TABLE_WORDS.true
]

pub returns-then-not-small : goal.returns-then-not-small
returns-then-not-small c =
    too_large _ _ _ _ c.if-pool-lt-POOL_BYTES.false c.if-table-lt-TABLE_WORDS.false c.small.result c.small.ensures (ap not c.if-not-small.true)

pub returns-then-not-is_good : goal.returns-then-not-is_good
returns-then-not-is_good c =
    bad-table _ _ _ _ c.if-pool-lt-POOL_BYTES.false c.if-table-lt-TABLE_WORDS.false c.small.result c.small.ensures (ap not c.if-not-small.false)
    c.is_good.result c.is_good.ensures
    (ap not c.if-not-is_good.true)

pub returns-then-sets_given : goal.returns-then-sets_given
returns-then-sets_given c =
    let e = ap (λ (b : Bool). need b 1) (sym c.if-sets_given.true) ∙ c.sets_given.ensures in
    checked _ _ _ _ c.if-pool-lt-POOL_BYTES.false c.if-table-lt-TABLE_WORDS.false c.small.result c.small.ensures (ap not c.if-not-small.false)
    c.is_good.result c.is_good.ensures (ap not c.if-not-is_good.false) e

pub returns-else-sets_given : goal.returns-else-sets_given
returns-else-sets_given c =
    let e = ap (λ (b : Bool). need b 1) (sym c.if-sets_given.false) ∙ c.sets_given.ensures in
    checked _ _ _ _ c.if-pool-lt-POOL_BYTES.false c.if-table-lt-TABLE_WORDS.false c.small.result c.small.ensures (ap not c.if-not-small.false)
    c.is_good.result c.is_good.ensures (ap not c.if-not-is_good.false) e
