-- `inner::zeros` meets its contract.
use mathlib.Core.Path.{refl}
use Rattle.laws.proofs.Ranges.{nought-good}
use Rattle.engine_matrix.specs.Powers.{powersIn}
use Rattle.engine_rows.proofs.Atoms.{good-copies}
use Rattle.engine_rows.proofs.inner.zeros.Goals as goal

pub invariant_of-result : goal.invariant_of-result
unfolding powersIn
invariant_of-result c = record { long = refl; good = good-copies 48 _ nought-good }

pub returns : goal.returns
unfolding powersIn
returns c = refl
