-- The code's grids as lists of rows.
use Rattle.std.specs.Prelude.{◌≡◌, true, false, List, map, ℕ, ◌<◌, ◌≤◌, take, get_or}
use Rattle.rules.specs.Exponents.{nought, isZero}
use Rattle.engine_matrix.specs.declared.inner.parts.Grid.{Grid}
use Rattle.rules.specs.Elimination as Rows
use Rattle.engine_matrix.specs.Told.{row_in}

unfoldable pub rowsIn : Grid → List Rows.Row
rowsIn g = map row_in g.rows

-- the first m rows
abbrev pub front : ℕ → Grid → List Rows.Row
front m g = take m (rowsIn g)

-- j is the first of n columns whose power isn't 0, or n
pub record First (r : Rows.Row) (n j : ℕ) : Type 0 where
  pub most : j ≤ n
  pub zeros : (i : ℕ) → i < j → isZero (get_or r i nought) ≡ true
  pub there : j < n → isZero (get_or r j nought) ≡ false
