-- What generalising is given, and what it makes.
use Rattle.std.specs.Prelude.{◌≡◌, true, List, map, ℕ, ◌≤◌}
use Rattle.rules.specs.Base.{Got, got, ◌>>=◌, bounded}
use Rattle.rules.specs.Contents.{unmixed}
use Rattle.rules.specs.Names.{table_of, numbersOf}
use Rattle.rules.specs.Schemes.{Scheme, generalise}
use Rattle.rules.specs.Trees.{Ty, Open, quant, opens, depth}
use Rattle.rules.specs.Writing.{Rec, word_of, writeScheme}
use Rattle.laws.specs.Lists.{All}
use Rattle.records.specs.Good.{goodTy}

module _ (pool table : List ℕ) where
  abbrev pub generalisedFrom : Scheme ℕ → List (Open ℕ) → Got (List Rec)
  generalisedFrom s bs = generalise (numbersOf (table_of pool table)) bounded (map word_of bs) s >>= λ r. got (writeScheme r)

  -- a concrete type and bounds that passed their tests
  pub record Ready (t : Ty ℕ) (bs : List (Open ℕ)) : Type 0 where
    pub good : goodTy pool table 0 t ≡ true
    pub flat : depth t ≤ 64
    pub unmix : unmixed (numbersOf (table_of pool table)) (opens t) ≡ true
    pub named : All (λ o. (j : ℕ) → o ≡ quant j → ⊥) bs
