-- The second engine's answer is the solver's without the rounds, on every set that fits the engine, whatever the counts. The functions of src promise
-- these statements; the words stand in Claims and in rules' Elimination, the proofs in proofs/.
use Rattle.std.specs.Prelude.{◌≡◌, ◌⊎◌, List, ℕ}
use Rattle.rules.specs.Base.{got}
use Rattle.rules.specs.Trees.{Product, Con}
use Rattle.rules.specs.Names.{table_of, numbersOf}
use Rattle.rules.specs.Calls.{lent, solveCall, refusedAfter}
use Rattle.rules.specs.Elimination.{fitting, setChecked, eliminateCall, refusedWith}
use Rattle.theorems_engine.specs.Claims.{Agree, Unfit, Alike}

module _ (pool table set result work : List ℕ) where
  pub record Engines : Type 0 where
    -- for every input at all: they agree, or the set doesn't fit
    pub always : Agree pool table set result work ⊎ Unfit pool table set result work
    -- and then the engine answers 8
    pub unfit-answer : Unfit pool table set result work → (eliminateCall pool table set result work).answer ≡ refusedWith 8
    -- on every set that fits they agree
    pub on-fitting : ((cs : List (Con ℕ)) → setChecked (table_of pool table) set ≡ got cs
        → (ps : List (Product ℕ)) × (fitting (numbersOf (table_of pool table)) cs ≡ got ps))
        → Agree pool table set result work
    -- such a set that passed the checks at entry is refused with 7 alone, by the engine and by the solver: never with 8
    pub only-7 : (cs : List (Con ℕ)) (ps : List (Product ℕ)) → lent pool table result work ≡ got tt → setChecked (table_of pool table) set ≡ got cs
        → fitting (numbersOf (table_of pool table)) cs ≡ got ps
        → (n k : ℕ) → (solveCall pool table set result work).answer ≡ refusedAfter n k → n ≡ 7
    -- 'where neither engine answers 7 or 8, both refuse alike ..'. It is enough that this engine doesn't
    pub alike : ((n : ℕ) → (n ≡ 7) ⊎ (n ≡ 8) → (eliminateCall pool table set result work).answer ≡ refusedWith n → ⊥)
        → Alike pool table set result work

abbrev pub EnginesAgree : Type 0
EnginesAgree = (pool table set result work : List ℕ) → Engines pool table set result work
