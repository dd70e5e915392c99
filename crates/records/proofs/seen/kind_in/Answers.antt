-- `kind_in` meets its contract.
use Rattle.rules.specs.Writing.{kindIn}
use mathlib.Core.Path.{refl}
use Rattle.records.proofs.seen.kind_in.Goals as goal

pub returns : goal.returns
unfolding kindIn
returns c = refl
