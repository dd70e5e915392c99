-- `inner::grids::with_row` meets its contract.
use mathlib.Core.Path.{◌∙◌}
use Rattle.std.proofs.lemmas.List.{length-set}
use Rattle.engine_matrix.specs.Grids.{rowsIn}
use Rattle.engine_matrix.proofs.Loops.{grid-set}
use Rattle.engine_matrix.proofs.inner.grids.with_row.Goals as goal

pub invariant_of-q : goal.invariant_of-q
invariant_of-q c = record { long = length-set c.args.g.rows c.args.i c.args.r ∙ c.args.g.long }

pub returns : goal.returns
unfolding rowsIn
returns c = grid-set c.args.g c.args.i c.args.r
