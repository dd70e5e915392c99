-- `inner::grids::row_at` meets its contract.
use Rattle.engine_matrix.proofs.Loops.{grid-at}
use Rattle.engine_matrix.proofs.inner.grids.row_at.Goals as goal

pub returns : goal.returns
returns c = grid-at c.args.g c.args.i _ c.requires.place
