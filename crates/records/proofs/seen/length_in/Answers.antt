-- `length_in` meets its contract.
use Rattle.rules.specs.Writing.{lengthIn}
use mathlib.Core.Path.{refl}
use Rattle.records.proofs.seen.length_in.Goals as goal

pub returns : goal.returns
unfolding lengthIn
returns c = refl
