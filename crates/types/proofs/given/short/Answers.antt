-- `given::short` meets its contract.
use Rattle.std.proofs.Common.{sym}
use Rattle.types.proofs.Tested as tested
use Rattle.types.proofs.given.short.Goals as goal

pub returns-then-words-gt-RECORD_WORDS : goal.returns-then-words-gt-RECORD_WORDS
returns-then-words-gt-RECORD_WORDS c = tested.too_long _ c.if-words-gt-RECORD_WORDS.true

pub returns : goal.returns
returns c = sym (tested.short _ c.if-words-gt-RECORD_WORDS.false)
