-- `inner::blank` meets its contract.
use mathlib.Core.Path.{ap}
use Rattle.std.specs.Prelude.{replicate}
use Rattle.engine_matrix.specs.Grids.{rowsIn}
use Rattle.engine_rows.proofs.inner.blank.Goals as goal

pub returns : goal.returns
unfolding rowsIn
returns c = ap (replicate 24) c.zeros.ensures
