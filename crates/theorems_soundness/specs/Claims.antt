-- The words of the theorems: what is asked of names and of a given set, the form of an answer, a constraint that fails.
use Rattle.std.specs.Prelude.{◌≡◌, Bool, true, false, ◌⊎◌, ℕ, suc, ◌*◌, eqb, length, take, drop}
use mathlib.Core.List.{List, [], ◌∷◌, ◌++◌, map, Memᴰ}
use Rattle.rules.specs.Base.{Got, got, refused, ◌>>◌, bounded, only_if, to_list, all, collect, sum_of}
use Rattle.rules.specs.Trees.{var, Names, Ty, Con, Binding, ◌≔◌, opensCon, sizeBinding}
use Rattle.rules.specs.Names.{table_of, numbersOf, is_held}
use Rattle.rules.specs.Writing.{kindIn, words, writeBinding, writeBound}
use Rattle.rules.specs.Calls.{lentWork, shortLists, shortNumbers, setGiven, entriesGiven, risingBounds, over, solveCall, Entry, judgeCall}
use Rattle.rules.specs.Contents.{contains, unmixed}
use Rattle.rules.specs.WellFormed.{rising, goodCon, goodBinding}
use Rattle.rules.specs.Solving.{accepted, solve}
use Rattle.rules.specs.Meaning.{TrueUnder, Solves, Premise}
use Rattle.laws.specs.Order.{Lawful, Tells}
use Rattle.laws.specs.Lists.{All}

-- names whose order, by bytes, is lawful and tells the held ones apart
pub record Ordered {N : Type 0} (ν : Names N) (held : N → Bool) : Type 0 where
  pub lawful : Lawful ν.order
  pub tells : Tells (λ n. held n ≡ true) ν.order

-- a given set: well formed constraints (else 1), no name both a variable and a parameter (else 4)
pub record Given {N : Type 0} (ν : Names N) (held : N → Bool) (cs : List (Con N)) : Type 0 where
  pub well-formed : all (goodCon ν held 0) cs ≡ true
  pub apart : unmixed ν (collect opensCon cs) ≡ true

module _ {N : Type 0} where
  abbrev pub key : Binding N → N
  key (x ≔ t) = x

  abbrev pub type_of : Binding N → Ty N
  type_of (x ≔ t) = t

  abbrev pub keys : List (Binding N) → List N
  keys bs = map key bs

  -- no name twice
  abbrev pub Once : List N → Type 0
  Once [] = Unit {0}
  Once (x ∷ xs) = (¬ (Memᴰ x xs)) × Once xs

-- the form of an answer, over the held names
pub record SolvedForm {N : Type 0} (ν : Names N) (held : N → Bool) (bs : List (Binding N)) (bounds : List N) : Type 0 where
  -- no variable is bound twice
  pub once : Once (keys bs)
  -- 'every binding's variable occurs in no binding of the answer on its type side'
  pub apart : (b c : Binding N) → Memᴰ b bs → Memᴰ c bs → contains ν (key b) (type_of c) ≡ false
  -- bindings and bounds are well formed over the given names
  pub bindings-good : All (λ b. goodBinding ν held 0 b ≡ true) bs
  pub bounds-held : All (λ n. held n ≡ true) bounds
  -- 'sorted by name bytes, once each'
  pub bounds-rise : rising ν.order bounds ≡ true
  -- what is bound has no bound of its own
  pub bounds-free : All (λ n. ¬ (Memᴰ n (keys bs))) bounds

-- a constraint of the set that isn't true once the bindings are put in
pub record Fails {N : Type 0} (ν : Names N) (cs : List (Con N)) (bs : List (Binding N)) (bounds : List N) : Type 0 where
  pub constraint : Con N
  pub given : Memᴰ constraint cs
  pub fails : ¬ (TrueUnder ν bs bounds constraint)

-- ══ The calls on words ══

-- entries, a record list and bounds that propose these bindings and bounds to the judge, with a long enough work buffer
pub record Proposes (pool table set : List ℕ) (bs : List (Binding ℕ)) (ns : List ℕ) (entries : List Entry) (types bounds work : List ℕ) : Type 0 where
  pub entries-read : entriesGiven (table_of pool table) entries types ≡ got bs
  pub bounds-read : risingBounds (table_of pool table) bounds ≡ got ns
  pub short : (shortLists (set ∷ types ∷ bounds ∷ []) >> shortNumbers entries) ≡ got tt
  pub lent : lentWork work ≡ got tt

-- yes, 7 or 8
abbrev pub YesOrLimits : Got Bool → Type 0
YesOrLimits answer = (answer ≡ got true) ⊎ ((answer ≡ refused 7) ⊎ (answer ≡ refused 8))

-- the parts of the result buffer that hold the written bindings, and behind them the bounds
abbrev pub bindingsIn : List ℕ → ℕ → List ℕ
bindingsIn result records = take (records * 4) result

abbrev pub boundsIn : List ℕ → ℕ → ℕ → List ℕ
boundsIn result records bounds = take (bounds * 4) (drop (records * 4) result)

-- an entry for each of these words' records that begins a binding (kind 24): its variable, and the place behind that record, where its type
-- stands. The first record has the place `at`
unfoldable pub pointed : ℕ → List ℕ → List Entry
pointed at [] = []
pointed at (w ∷ []) = []
pointed at (w ∷ a ∷ []) = []
pointed at (w ∷ a ∷ b ∷ []) = []
pointed at (w ∷ a ∷ b ∷ c ∷ ws) = to_list (only_if (eqb (kindIn w) 24) (record { variable = a; place = suc at })) ++ pointed (suc at) ws

-- an accepted answer: the constraints that were read, the bindings and bounds that were written, and what they are worth
pub record SoundAnswer (pool table set result work : List ℕ) (records bounds rounds : ℕ) : Type 0 where
  pub cs : List (Con ℕ)
  pub bs : List (Binding ℕ)
  pub ns : List ℕ
  pub read : setGiven (table_of pool table) set ≡ got cs
  pub short : shortLists (set ∷ []) ≡ got tt
  pub accepts : solve (numbersOf (table_of pool table)) bounded cs ≡ accepted bs ns rounds
  pub written : (solveCall pool table set result work).result ≡ over (words (collect writeBinding bs ++ map (λ n. writeBound (var n)) ns)) result
  pub binding-records : sum_of sizeBinding bs ≡ records
  pub bound-records : length ns ≡ bounds
  pub form : SolvedForm (numbersOf (table_of pool table)) (is_held (table_of pool table)) bs ns
  pub sound : Premise (numbersOf (table_of pool table)) cs bs → Solves (numbersOf (table_of pool table)) cs bs ns
  pub judged : Premise (numbersOf (table_of pool table)) cs bs → (entries : List Entry) (types bounds work : List ℕ)
      → Proposes pool table set bs ns entries types bounds work → YesOrLimits (judgeCall pool table set entries types bounds work).answer

-- the verdict was said of these
pub record JudgedSet (pool table set : List ℕ) (entries : List Entry) (types bounds : List ℕ)
    (Verdict : List (Con ℕ) → List (Binding ℕ) → List ℕ → Type 0) : Type 0 where
  pub cs : List (Con ℕ)
  pub bs : List (Binding ℕ)
  pub ns : List ℕ
  pub read : setGiven (table_of pool table) set ≡ got cs
  pub proposed : entriesGiven (table_of pool table) entries types ≡ got bs
  pub bounded-by : risingBounds (table_of pool table) bounds ≡ got ns
  pub verdict : Verdict cs bs ns
