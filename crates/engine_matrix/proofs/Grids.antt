-- What follows from the definitions of specs/Grids: the code's grids as lists of rows.
use Rattle.std.specs.Prelude.{◌≡◌, length}
use Rattle.std.proofs.Common.{◌∙◌}
use Rattle.std.proofs.lemmas.List.{length-map}
use Rattle.engine_matrix.specs.declared.inner.parts.Grid.{Grid}
use Rattle.engine_matrix.specs.Told.{row_in}
use Rattle.engine_matrix.specs.Grids.{rowsIn}

pub grid-long : (g : Grid) → length (rowsIn g) ≡ 24
unfolding rowsIn
grid-long g = length-map g.rows row_in ∙ g.long
