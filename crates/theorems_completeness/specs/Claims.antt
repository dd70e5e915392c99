-- The words of the theorems: the sets that the theorem speaks of, and what is said of an accepted answer. Choices stand in rules' Choices.
use Rattle.std.specs.Prelude.{◌≡◌, Bool, true, ◌⊎◌, ℕ, ◌≤◌, length}
use Rattle.std.proofs.Math.Option.{some}
use mathlib.Core.List.{List, ◌++◌, map, Memᴰ}
use Rattle.rules.specs.Base.{all, collect, sum_of}
use Rattle.rules.specs.Trees.{var, Product, Names, Ty, dim, Con, Binding, ◌≔◌, sizeBinding}
use Rattle.rules.specs.Names.{table_of, numbersOf}
use Rattle.rules.specs.Writing.{words, writeBinding, writeBound}
use Rattle.rules.specs.Solving.{Answer, accepted, remaining, stopped}
use Rattle.rules.specs.Calls.{over, Solved, solved, unsolved, refusedAfter, solveCall}
use Rattle.rules.specs.WellFormed.{goodCon}
use Rattle.rules.specs.Choices.{
  Dimension,
  Choice,
  Rational,
  Same,
  comesTo,
  dimensional,
  MakesAllTrue,
  Choosing,
  completed,
  isSide,
  wide,
  sideComesTo,
  MakesAllWideTrue,
  ChoosingWide,
  completedWide,
}

-- both ways
infix 5 ◌⇔◌
abbrev pub ◌⇔◌ : Type 0 → Type 0 → Type 0
A ⇔ B = (A → B) × (B → A)

-- 'sets in which every constraint is equal-scalar or an equality of two dimensions': well formed (else 1), of at most 2,048 records (else 8), so
-- of no more constraints
pub record DimensionSet {N : Type 0} (ν : Names N) (held : N → Bool) (cs : List (Con N)) : Type 0 where
  pub well-formed : all (goodCon ν held 0) cs ≡ true
  pub dimensions : all dimensional cs ≡ true
  pub few : length cs ≤ 2048

-- what the bindings of an accepted answer say of the choices that make the set true
pub record AllChoices {N : Type 0} (ν : Names N) (cs : List (Con N)) (bs : List (Binding N)) : Type 0 where
  -- every variable is bound to a dimension, and to one only
  pub dimensions : (x : N) (t : Ty N) → Memᴰ (x ≔ t) bs → (p : Product N) × (t ≡ dim p)
  pub once : (x : N) (t u : Ty N) → Memᴰ (x ≔ t) bs → Memᴰ (x ≔ u) bs → t ≡ u
  -- (b) whatever is chosen for the open variables, the bindings complete it to a choice that makes all constraints true
  pub completes : (c : Choice N) → Rational c → Rational (completed ν.same bs c) × MakesAllTrue ν.same (completed ν.same bs c) cs
  -- the open variables alone decide what it is completed to
  pub open-decide : (c d : Choice N) → Rational c → Rational d → ((x : N) → ((t : Ty N) → Memᴰ (x ≔ t) bs → ⊥) → Same ν.same (c x) (d x))
      → (x : N) → Same ν.same (completed ν.same bs c x) (completed ν.same bs d x)
  -- (c) in every choice that makes all true, each bound variable's dimension is what its bound product comes to under that choice
  pub bound-so : (c : Choice N) → Rational c → MakesAllTrue ν.same c cs → (x : N) (p : Product N) → Memᴰ (x ≔ dim p) bs → Same ν.same (c x) (comesTo c p)
  -- so that completing it gives it back
  pub comes-so : (c : Choice N) → Rational c → MakesAllTrue ν.same c cs → (x : N) → Same ν.same (c x) (completed ν.same bs c x)

module _ {N : Type 0} where
  -- the solver answers 5; it refuses with another number
  abbrev pub Five : Answer N → Type 0
  Five (accepted bs ns k) = ⊥
  Five (remaining cs k) = Unit {0}
  Five (stopped n k) = ⊥

  abbrev pub Stopped : Answer N → Type 0
  Stopped (accepted bs ns k) = ⊥
  Stopped (remaining cs k) = ⊥
  Stopped (stopped n k) = Unit {0}

-- ══ The call on words ══

-- 'if the solver doesn't answer 1, 4, 7, 8 or 10'
abbrev pub Excepted : ℕ → Type 0
Excepted n = (n ≡ 1) ⊎ ((n ≡ 4) ⊎ ((n ≡ 7) ⊎ ((n ≡ 8) ⊎ (n ≡ 10))))

abbrev pub Unsolved : Solved → Type 0
Unsolved (solved b n k) = ⊥
Unsolved (unsolved r k) = Unit {0}
Unsolved (refusedAfter n k) = ⊥

-- the bindings that were written at the front of the result buffer, and what they say of choices
pub record Told (pool table set result work : List ℕ) (Choices : List (Binding ℕ) → Type 0) (records bounds : ℕ) : Type 0 where
  pub bs : List (Binding ℕ)
  pub ns : List ℕ
  pub written : (solveCall pool table set result work).result ≡ over (words (collect writeBinding bs ++ map (λ n. writeBound (var n)) ns)) result
  pub binding-records : sum_of sizeBinding bs ≡ records
  pub bound-records : length ns ≡ bounds
  pub choices : Choices bs

-- what the call answers, whatever is lent, for words that are read as the constraints cs
pub record Complete (pool table set result work : List ℕ) (cs : List (Con ℕ)) : Type 0 where
  -- it refuses with no other number; 6 can't come
  pub refusals : (n k : ℕ) → (solveCall pool table set result work).answer ≡ refusedAfter n k → Excepted n
  -- (a) it answers 5 exactly when no choice makes all constraints true
  pub five : ((n k : ℕ) → (solveCall pool table set result work).answer ≡ refusedAfter n k → Excepted n → ⊥)
      → Unsolved (solveCall pool table set result work).answer ⇔ (Choosing (numbersOf (table_of pool table)).same cs → ⊥)
  -- (b), (c)
  pub accepts : (records bounds rounds : ℕ) → (solveCall pool table set result work).answer ≡ solved records bounds rounds
      → Told pool table set result work (AllChoices (numbersOf (table_of pool table)) cs) records bounds

-- ══ Wide sets: sides may be variables, and is-dimension may stand in them ══

-- equal-scalars, equalities of sides and is-dimensions of sides, well formed (else 1). No other check at entry is needed
pub record WideSet {N : Type 0} (ν : Names N) (held : N → Bool) (cs : List (Con N)) : Type 0 where
  pub well-formed : all (goodCon ν held 0) cs ≡ true
  pub sides : all wide cs ≡ true

-- what the bindings of an accepted answer say of the choices that make a wide set true
pub record AllWideChoices {N : Type 0} (ν : Names N) (cs : List (Con N)) (bs : List (Binding N)) : Type 0 where
  -- every variable is bound to a dimension or a variable, and to one only
  pub sides : (x : N) (t : Ty N) → Memᴰ (x ≔ t) bs → isSide t ≡ true
  pub once : (x : N) (t u : Ty N) → Memᴰ (x ≔ t) bs → Memᴰ (x ≔ u) bs → t ≡ u
  -- whatever is chosen for the open variables, the bindings complete it to a choice that makes all constraints true
  pub completes : (c : Choice N) → Rational c → Rational (completedWide ν.same bs c) × MakesAllWideTrue ν.same (completedWide ν.same bs c) cs
  -- the open variables alone decide what it is completed to
  pub open-decide : (c d : Choice N) → Rational c → Rational d → ((x : N) → ((t : Ty N) → Memᴰ (x ≔ t) bs → ⊥) → Same ν.same (c x) (d x))
      → (x : N) → Same ν.same (completedWide ν.same bs c x) (completedWide ν.same bs d x)
  -- in every choice that makes all true, each bound variable's dimension is what its bound side comes to under that choice
  pub bound-so : (c : Choice N) → Rational c → MakesAllWideTrue ν.same c cs
      → (x : N) (t : Ty N) → Memᴰ (x ≔ t) bs → (d : Dimension N) → sideComesTo c t ≡ some d → Same ν.same (c x) d
  -- so that completing it gives it back
  pub comes-so : (c : Choice N) → Rational c → MakesAllWideTrue ν.same c cs → (x : N) → Same ν.same (c x) (completedWide ν.same bs c x)

-- as `Complete`
pub record WideComplete (pool table set result work : List ℕ) (cs : List (Con ℕ)) : Type 0 where
  -- it refuses with no other number; 6 can't come
  pub refusals : (n k : ℕ) → (solveCall pool table set result work).answer ≡ refusedAfter n k → Excepted n
  -- it answers 5 exactly when no choice makes all constraints true
  pub five : ((n k : ℕ) → (solveCall pool table set result work).answer ≡ refusedAfter n k → Excepted n → ⊥)
      → Unsolved (solveCall pool table set result work).answer ⇔ (ChoosingWide (numbersOf (table_of pool table)).same cs → ⊥)
  pub accepts : (records bounds rounds : ℕ) → (solveCall pool table set result work).answer ≡ solved records bounds rounds
      → Told pool table set result work (AllWideChoices (numbersOf (table_of pool table)) cs) records bounds
