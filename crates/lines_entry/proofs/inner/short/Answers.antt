-- `inner::short` meets its contract.
use borrow.Author.Tests.{lt-leb, le-leb}
use lib.ListN.{length}
use Rattle.rules.specs.Base.{all}
use Rattle.rules.specs.Calls.{shortLists, shortNumbers}
use Rattle.rules.specs.Lines.{lineShort}
use Rattle.lines_entry.proofs.inner.short.Goals as goal

pub returns-then-line-gt-STEP_WORDS : goal.returns-then-line-gt-STEP_WORDS
unfolding lineShort shortLists shortNumbers all
returns-then-line-gt-STEP_WORDS c = rw (lt-leb (length c.args.line.steps.now) 512 c.if-line-gt-STEP_WORDS.true)

pub returns-then-line-gt-RECORD_WORDS : goal.returns-then-line-gt-RECORD_WORDS
unfolding lineShort shortLists shortNumbers all
returns-then-line-gt-RECORD_WORDS c = rw (
  le-leb (length c.args.line.steps.now) 512 c.if-line-gt-STEP_WORDS.false,
  lt-leb (length c.args.line.types.now) 8192 c.if-line-gt-RECORD_WORDS.true,
)

pub returns-then-line-gt-RECORDS : goal.returns-then-line-gt-RECORDS
unfolding lineShort shortLists shortNumbers all
returns-then-line-gt-RECORDS c = rw (
  le-leb (length c.args.line.steps.now) 512 c.if-line-gt-STEP_WORDS.false,
  le-leb (length c.args.line.types.now) 8192 c.if-line-gt-RECORD_WORDS.false,
  lt-leb (length c.args.line.earlier.now) 2048 c.if-line-gt-RECORDS.true,
)

pub returns : goal.returns
unfolding lineShort shortLists shortNumbers all
returns c = rw (
  le-leb (length c.args.line.steps.now) 512 c.if-line-gt-STEP_WORDS.false,
  le-leb (length c.args.line.types.now) 8192 c.if-line-gt-RECORD_WORDS.false,
  le-leb (length c.args.line.earlier.now) 2048 c.if-line-gt-RECORDS.false,
)
