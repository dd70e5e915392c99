-- `inner::word_at` meets its contract.
use Rattle.rescue.proofs.Steps.{word-is}
use Rattle.rescue.proofs.inner.word_at.Goals as goal

pub returns : goal.returns
returns c = word-is c.args.file.now c.args.i c.requires
