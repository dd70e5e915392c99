-- What is told of sheets, one after another, and how many are accepted.
use Rattle.std.specs.Prelude.{◌≡◌, List, ℕ}
use Rattle.rules.specs.Reports.{Edition}
use Rattle.edition.specs.Files.{HoldsAll}
use Rattle.edition.specs.declared.model.Sheet.{Sheet}

-- the sheets of an edition, and the names that all of them leave
pub record Whole (pool table : List ℕ) (xs : List Sheet) (e : Edition) : Type 0 where
  pub holds : HoldsAll xs e.pages
  pub pools : pool ≡ e.pool
  pub tables : table ≡ e.table
