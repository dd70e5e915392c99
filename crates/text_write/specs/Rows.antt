-- Constraints that stand one after another.
use Rattle.std.specs.Prelude.{List, ℕ, ◌/◌, length}
use Rattle.rules.specs.Trees.{Con}
use Rattle.records.specs.Good.{Chain, GoodCon}

module _ (pool table s : List ℕ) where
  -- good constraints up to the end of the words
  pub record LinesAt (at : ℕ) (cs : List (Con ℕ)) : Type 0 where
    pub chain : Chain (GoodCon pool table 0 s) (length s / 4) cs at
