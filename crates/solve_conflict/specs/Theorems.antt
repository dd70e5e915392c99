-- What an answer of `conflict` is worth. The functions of src/theorems promise these statements; the proofs stand in proofs/.
use Rattle.std.specs.Prelude as std
use Rattle.std.specs.Prelude.{Result, ◌≡◌, List, [], ◌∷◌, ◌⊎◌, map, ℕ, length}
use Rattle.std.proofs.Math.Option.{some, none}
use Rattle.rules.specs.Base.{got, keep}
use Rattle.rules.specs.Calls.{setGiven, over}
use Rattle.rules.specs.Choices.{wide, ChoosingWide}
use Rattle.rules.specs.Conflicts.{Conflict, Line, linesFrom, conflictCall}
use Rattle.rules.specs.Names.{table_of, numbersOf}
use Rattle.rules.specs.Trees.{Con}
use Rattle.rules.specs.declared.Refusal.{Refusal}
use Rattle.solve_conflict.specs.Told.{conflictsAs}

-- some of a list, in its order
abbrev pub PartOf : {A : Type 0} → List A → List A → Type 0
PartOf [] ys = Unit {0}
PartOf (x ∷ xs) [] = ⊥
PartOf (x ∷ xs) (y ∷ ys) = ((x ≡ y) × PartOf xs ys) ⊎ PartOf (x ∷ xs) ys

module _ (pool table set result work : List ℕ) where
  abbrev pub same : Discrete ℕ
  same = (numbersOf (table_of pool table)).same

  -- lines that are told
  pub record ConflictTold (many : ℕ) : Type 0 where
    pub cs : List (Con ℕ)
    pub lines : List (Line ℕ)
    pub read : setGiven (table_of pool table) set ≡ got cs
    -- each stands in the set at its place, and they are in the set's order
    pub part : PartOf lines (linesFrom 0 cs)
    pub written : (conflictCall pool table set result work).result ≡ over (map (λ l. l.0) lines) result
    pub counted : length lines ≡ many
    -- no choice makes all of them true, and without any one of them there is one
    pub conflict : Conflict same (map (λ l. l.1) lines)

  -- none is told: a choice makes all wide constraints of the set true
  pub record NoneTold : Type 0 where
    pub cs : List (Con ℕ)
    pub read : setGiven (table_of pool table) set ≡ got cs
    pub choice : ChoosingWide same (keep wide cs)

-- whatever is lent, what is told is a conflict
abbrev pub ConflictsAreTold : Type 0
ConflictsAreTold = (pool table set result work : List ℕ) (many : ℕ) → (conflictCall pool table set result work).answer ≡ got (some many)
    → ConflictTold pool table set result work many

-- and no conflict is told only where the wide lines can all be true
abbrev pub NoneOnlyWithChoice : Type 0
NoneOnlyWithChoice = (pool table set result work : List ℕ) → (conflictCall pool table set result work).answer ≡ got none
    → NoneTold pool table set result work

-- ══ The contract decides ══

pub record OneAnswer (p q : Result (std.Option ℕ) Refusal) (result result' work work' : List ℕ) : Type 0 where
  pub answers : p ≡ q
  pub results : result ≡ result'
  pub works : work ≡ work'

-- the contract of `conflict` leaves no choice: two results that it allows coincide
abbrev pub ConflictDetermined : Type 0
ConflictDetermined = (pool table set result work : List ℕ) (p q : Result (std.Option ℕ) Refusal) (a b c d : List ℕ)
    → conflictsAs p a c ≡ conflictCall pool table set result work → conflictsAs q b d ≡ conflictCall pool table set result work → OneAnswer p q a b c d
