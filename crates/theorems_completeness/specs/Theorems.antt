-- Refused only when there is no choice: for sets in which every constraint is equal-scalar or an equality of two dimensions, 5 means that no choice
-- of dimensions makes all true, and an accepted answer gives all choices that do. The functions of src promise these statements; the words stand in
-- Claims and in rules' Choices, the proofs in proofs/.
use Rattle.std.specs.Prelude.{◌≡◌, Bool, true, ◌⊎◌, [], ℕ, negsuc}
use mathlib.Core.List.{List, Memᴰ}
use Rattle.rules.specs.Base.{got, bounded, all}
use Rattle.rules.specs.Exponents.{frac, nought}
use Rattle.rules.specs.Trees.{Names, Con, Binding}
use Rattle.rules.specs.Names.{table_of, numbersOf}
use Rattle.rules.specs.Solving.{accepted, stopped, solve}
use Rattle.rules.specs.Calls.{setGiven, solved, unsolved, refusedAfter, solveCall}
use Rattle.rules.specs.Examples.{x, L, pool, table, result, work}
use Rattle.rules.specs.Choices.{
  Choice,
  Rational,
  dimensional,
  Choosing,
  wide,
  MakesTrue,
  MakesAllTrue,
  MakesWideTrue,
  MakesAllWideTrue,
  ChoosingWide,
  baseDimension,
  power,
  completed,
}
use Rattle.laws.specs.Lists.{Every}
use Rattle.laws.specs.Order.{Lawful, Tells}
use Rattle.theorems_completeness.specs.Examples.{
  same,
  names,
  k9,
  k9-words,
  k13,
  k13-words,
  two-things,
  two-things-words,
  open-two,
  open-two-bindings,
  y-is-L,
  k5,
  k5-bindings,
  WholePart,
  k14,
  k14-words,
}
use Rattle.theorems_completeness.specs.Claims.{◌⇔◌, DimensionSet, AllChoices, Five, Stopped, Complete, WideSet, AllWideChoices, WideComplete}

-- ══ On trees: names whose order, by bytes, is lawful and tells the held ones apart ══

module _ {N : Type 0} (ν : Names N) where
  pub record Decided (cs : List (Con N)) : Type 0 where
    -- the solver stops with 7 or 8 alone: 6 can't come, and the rounds never run out
    pub only-7-and-8 : (n k : ℕ) → solve ν bounded cs ≡ stopped n k → (n ≡ 7) ⊎ (n ≡ 8)
    -- (a) 'it answers 5 exactly when no choice of dimensions with rational powers for the variables makes all constraints true'
    pub five-exactly : (Stopped (solve ν bounded cs) → ⊥) → Five (solve ν bounded cs) ⇔ (Choosing ν.same cs → ⊥)
    -- (b), (c) 'when it accepts, every other such choice comes from the accepted one by choosing its open variables'
    pub all-choices : (bs : List (Binding N)) (ns : List N) (k : ℕ) → solve ν bounded cs ≡ accepted bs ns k → AllChoices ν cs bs

abbrev pub DimensionsDecided : Type 0 → Type 0
DimensionsDecided N = (ν : Names N) (held : N → Bool) → Lawful ν.order → Tells (λ n. held n ≡ true) ν.order
    → (cs : List (Con N)) → DimensionSet ν held cs → Decided ν cs

-- ══ On words, whatever is lent, for a set that is read as such constraints ══

abbrev pub CallComplete : Type 0
CallComplete = (pool table set result work : List ℕ) (cs : List (Con ℕ)) → setGiven (table_of pool table) set ≡ got cs → all dimensional cs ≡ true
    → Complete pool table set result work cs

-- a set of dimension lines that is refused with 5 can't be saved by any assignment
abbrev pub RefusedThenNone : Type 0
RefusedThenNone = (pool table set result work : List ℕ) (cs : List (Con ℕ)) → setGiven (table_of pool table) set ≡ got cs → all dimensional cs ≡ true
    → (records rounds : ℕ) → (solveCall pool table set result work).answer ≡ unsolved records rounds
    → Choosing (numbersOf (table_of pool table)).same cs → ⊥

-- of other sets that is false: K9, dimension x = boolean, is read, and what is said of dimension lines doesn't hold of it
pub record DimensionsNeeded : Type 0 where
  pub read : setGiven (table_of pool table) k9-words ≡ got k9
  pub not-complete : ¬ (Complete pool table k9-words result work k9)

-- nor can less be said of dimension lines: what their answers are, and what choices they have
pub record EachPartNeeded : Type 0 where
  -- K13, equal-scalar L: refused with 5, and there is no choice
  pub k13-answer : (solveCall pool table k13-words result work).answer ≡ unsolved 3 0
  pub k13-none : ¬ (Choosing same k13)
  -- the parameter L = the base dimension L: no choice either, since they are two things
  pub two-things-answer : (solveCall pool table two-things-words result work).answer ≡ unsolved 4 1
  pub two-things-none : ¬ (Choosing same two-things)
  -- equal-scalar x y z: x is bound to y^-1 z^-1, and whatever is chosen is completed to a choice that makes it true
  pub open-two-solved : solve names bounded open-two ≡ accepted open-two-bindings [] 1
  pub any-completes : (c : Choice ℕ) → Rational c → MakesAllTrue same (completed same open-two-bindings c) open-two
  -- two choices of y and z give two that differ: x comes to nothing, or to L^-1
  pub choices-differ : (power same (baseDimension L) (completed same open-two-bindings (λ v. []) x) ≡ nought)
      × (power same (baseDimension L) (completed same open-two-bindings y-is-L x) ≡ frac (negsuc 0) 1)
  -- and x isn't free to choose
  pub not-any : ¬ (MakesAllTrue same y-is-L open-two)
  -- K5, equal-scalar x^2 L^-3: x is L^(3/2), and with whole powers there would be no choice
  pub k5-solved : solve names bounded k5 ≡ accepted k5-bindings [] 1
  pub whole-none : (c : Choice ℕ) → Rational c → ((v : ℕ) → Every WholePart (c v)) → ¬ (MakesAllTrue same c k5)
  -- K14, equal-scalar x^(1/2) y^2147483647: refused with 7, and there is a choice all the same
  pub k14-answer : (solveCall pool table k14-words result work).answer ≡ refusedAfter 7 0
  pub k14-choice : Choosing same k14

-- ══ Wide sets: sides may be variables, and is-dimension may stand in them ══

module _ {N : Type 0} (ν : Names N) where
  pub record WideDecided (cs : List (Con N)) : Type 0 where
    -- the solver stops with 7 or 8 alone
    pub only-7-and-8 : (n k : ℕ) → solve ν bounded cs ≡ stopped n k → (n ≡ 7) ⊎ (n ≡ 8)
    -- it answers 5 exactly when no choice makes all constraints true
    pub five-exactly : (Stopped (solve ν bounded cs) → ⊥) → Five (solve ν bounded cs) ⇔ (ChoosingWide ν.same cs → ⊥)
    -- when it accepts, every such choice comes from the answer by choosing its open variables
    pub all-choices : (bs : List (Binding N)) (ns : List N) (k : ℕ) → solve ν bounded cs ≡ accepted bs ns k → AllWideChoices ν cs bs

abbrev pub WideSetsDecided : Type 0 → Type 0
WideSetsDecided N = (ν : Names N) (held : N → Bool) → Lawful ν.order → Tells (λ n. held n ≡ true) ν.order
    → (cs : List (Con N)) → WideSet ν held cs → WideDecided ν cs

-- of the call, whatever is lent, for a set that is read as wide constraints
abbrev pub WideCallComplete : Type 0
WideCallComplete = (pool table set result work : List ℕ) (cs : List (Con ℕ)) → setGiven (table_of pool table) set ≡ got cs → all wide cs ≡ true
    → WideComplete pool table set result work cs

-- on sets of dimensions the wide words mean what the old ones mean
pub record SameThere {N : Type 0} (same : Discrete N) (c : Choice N) (k : Con N) : Type 0 where
  pub also-wide : wide k ≡ true
  pub same-truth : MakesTrue same c k ⇔ MakesWideTrue same c k

abbrev pub WideIsWider : Type 0 → Type 0
WideIsWider N = (same : Discrete N) (c : Choice N) (k : Con N) → dimensional k ≡ true → SameThere same c k

-- ══ Fewer constraints are true more easily ══

-- every constraint of ds stands in cs
abbrev pub Within : {N : Type 0} → List (Con N) → List (Con N) → Type 0
Within {N} ds cs = (k : Con N) → Memᴰ k ds → Memᴰ k cs

-- a choice that makes all constraints true makes all of any part of them true
abbrev pub FewerAreTrue : Type 0 → Type 0
FewerAreTrue N = (same : Discrete N) (c : Choice N) (cs ds : List (Con N)) → Within ds cs → MakesAllWideTrue same c cs → MakesAllWideTrue same c ds

-- a choice that makes every wide constraint of a set true; of its other constraints nothing is asked
abbrev pub MakesWideOnesTrue : {N : Type 0} → Discrete N → Choice N → List (Con N) → Type 0
MakesWideOnesTrue {N} same c cs = (k : Con N) → Memᴰ k cs → wide k ≡ true → MakesWideTrue same c k

-- so a set, whatever other constraints it has, has no such choice if some part of it, wide, is refused with 5: on trees,
abbrev pub PartRefused : Type 0 → Type 0
PartRefused N = (ν : Names N) (held : N → Bool) → Lawful ν.order → Tells (λ n. held n ≡ true) ν.order
    → (ds : List (Con N)) → WideSet ν held ds → Five (solve ν bounded ds)
    → (cs : List (Con N)) → Within ds cs → (c : Choice N) → Rational c → MakesWideOnesTrue ν.same c cs → ⊥

-- and of the call
abbrev pub ConflictInPart : Type 0
ConflictInPart = (pool table part result work : List ℕ) (ds : List (Con ℕ)) → setGiven (table_of pool table) part ≡ got ds → all wide ds ≡ true
    → (records rounds : ℕ) → (solveCall pool table part result work).answer ≡ unsolved records rounds
    → (cs : List (Con ℕ)) → Within ds cs
    → (c : Choice ℕ) → Rational c → MakesWideOnesTrue (numbersOf (table_of pool table)).same c cs → ⊥

-- whatever wide lines are added to a part that is refused with 5, over the same names, the whole is never accepted
abbrev pub ConflictStays : Type 0
ConflictStays = (pool table part whole result result' work work' : List ℕ) (ds cs : List (Con ℕ)) → setGiven (table_of pool table) part ≡ got ds
    → setGiven (table_of pool table) whole ≡ got cs → all wide cs ≡ true → Within ds cs
    → (left rounds : ℕ) → (solveCall pool table part result work).answer ≡ unsolved left rounds
    → (records bounds rounds' : ℕ) → (solveCall pool table whole result' work').answer ≡ solved records bounds rounds' → ⊥

-- of sets that aren't wide completeness is false: of K9
pub record WideNeeded : Type 0 where
  pub read : setGiven (table_of pool table) k9-words ≡ got k9
  pub not-complete : ¬ (WideComplete pool table k9-words result work k9)
