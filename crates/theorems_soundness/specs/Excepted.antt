-- The words of Violated: the one exception, and a line that adding answered so.
use Rattle.std.specs.Prelude.{◌≡◌, true, List, [], ◌∷◌, ℕ}
use Rattle.rules.specs.Base.{got}
use Rattle.rules.specs.Trees.{Names, Ty, Con, equal, Binding}
use Rattle.rules.specs.Names.{table_of, numbersOf}
use Rattle.rules.specs.Contents.{closed}
use Rattle.rules.specs.Meaning.{means, TrueUnder}
use Rattle.rules.specs.Calls.{setGiven}

-- an equality of two closed types that mean the same though their records differ: structs of one name and arguments, with other fields
pub record OtherFields {N : Type 0} (ν : Names N) (c : Con N) : Type 0 where
  pub left : Ty N
  pub right : Ty N
  pub equality : c ≡ equal left right
  pub left-closed : closed left ≡ true
  pub right-closed : closed right ≡ true
  pub same-meaning : means ν left right ≡ true
  pub other-records : ¬ (left ≡ right)

-- these words were read as a constraint that no bindings and bounds make true, except for the exception
pub record ViolatedLine (pool table con : List ℕ) : Type 0 where
  pub constraint : Con ℕ
  pub read : setGiven (table_of pool table) con ≡ got (constraint ∷ [])
  pub final : (bs : List (Binding ℕ)) (bounds : List ℕ) → TrueUnder (numbersOf (table_of pool table)) bs bounds constraint
      → OtherFields (numbersOf (table_of pool table)) constraint
