-- What follows from the definitions of specs/Well: factors that are well formed over a name table. An index may be any word: what holds
-- with fewer quantified variables holds here.
use Rattle.std.specs.Prelude.{◌≡◌, true, List, ℕ}
use Rattle.rules.specs.Names.{table_of, is_held}
use Rattle.rules.specs.Trees.{Factor}
use Rattle.rules.specs.WellFormed.{goodFactor}
use Rattle.replace.specs.Well.{names}

module _ (pool table : List ℕ) where
  abbrev pub GoodFactor : Factor ℕ → Type 0
  GoodFactor f = goodFactor (names pool table) (is_held (table_of pool table)) 4_294_967_296 f ≡ true
