-- `entry` meets its contract.
use Rattle.rules.specs.Calls.{aloneGiven, shortLists, tableKept}
use Rattle.rules.specs.Names.{lentTable}
use Rattle.rules.specs.Base.{all}
use borrow.Author.Tests.{le-leb, lt-leb}
use mathlib.Core.Path.{sym, ◌∙◌}
use Rattle.records.proofs.entry.Goals as goal
use Rattle.records.proofs.entry.Goals.{
  then-pool-lt-POOL_BYTES-via-then-pool-lt-POOL_BYTES,
  then-pool-lt-POOL_BYTES-via-else-pool-lt-POOL_BYTES+then-table-lt-TABLE_WORDS,
}

pub returns-then-pool-lt-POOL_BYTES : goal.returns-then-pool-lt-POOL_BYTES
unfolding aloneGiven lentTable shortLists tableKept all
returns-then-pool-lt-POOL_BYTES c = elim c.then-pool-lt-POOL_BYTES.branch [
  | then-pool-lt-POOL_BYTES-via-then-pool-lt-POOL_BYTES w ↦ simp (lt-leb _ _ w.if-pool-lt-POOL_BYTES.true)
  | then-pool-lt-POOL_BYTES-via-else-pool-lt-POOL_BYTES+then-table-lt-TABLE_WORDS w ↦
      simp (le-leb _ _ w.if-pool-lt-POOL_BYTES.false, lt-leb _ _ w.if-table-lt-TABLE_WORDS.true)
]

pub returns-then-words-gt-RECORD_WORDS : goal.returns-then-words-gt-RECORD_WORDS
unfolding aloneGiven lentTable shortLists tableKept all
returns-then-words-gt-RECORD_WORDS c = simp
    (le-leb _ _ c.if-pool-lt-POOL_BYTES.false, le-leb _ _ c.if-table-lt-TABLE_WORDS.false, lt-leb _ _ c.if-words-gt-RECORD_WORDS.true)

pub is_good-requires : goal.is_good-requires
is_good-requires c = record { pool_long = c.if-pool-lt-POOL_BYTES.false; table_long = c.if-table-lt-TABLE_WORDS.false }

pub returns-then-is_good : goal.returns-then-is_good
unfolding aloneGiven lentTable shortLists tableKept all
returns-then-is_good c = simp (
  le-leb _ _ c.if-pool-lt-POOL_BYTES.false,
  le-leb _ _ c.if-table-lt-TABLE_WORDS.false,
  le-leb _ _ c.if-words-gt-RECORD_WORDS.false,
  sym c.is_good.ensures ∙ c.if-is_good.true,
)

pub returns-else-is_good : goal.returns-else-is_good
unfolding aloneGiven lentTable shortLists tableKept all
returns-else-is_good c = simp (
  le-leb _ _ c.if-pool-lt-POOL_BYTES.false,
  le-leb _ _ c.if-table-lt-TABLE_WORDS.false,
  le-leb _ _ c.if-words-gt-RECORD_WORDS.false,
  sym c.is_good.ensures ∙ c.if-is_good.false,
)
