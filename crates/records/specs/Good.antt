-- What the walkers find: a well formed part that is held at a place, and where it ends.
use Rattle.std.specs.Prelude.{Option, Some, None, ◌≡◌, Bool, true, false, List, [], ◌∷◌, map, ℕ, suc, ◌+◌, ◌/◌, ◌≤◌, eqb, length}
use Rattle.rules.specs.Base.{all}
use Rattle.rules.specs.Trees as tree
use Rattle.rules.specs.Trees.{
  Names,
  Product,
  Ty,
  Tys,
  Fields,
  Con,
  Binding,
  orderAtom,
  size,
  sizeTys,
  sizeFields,
  sizeCon,
  sizeBinding,
  depth,
  depthTys,
  depthFields,
  depthCon,
  depthBinding,
  count,
  countFields,
}
use Rattle.rules.specs.Schemes.{Scheme, concrete, scheme}
use Rattle.rules.specs.Names.{table_of, numbersOf, is_held}
use Rattle.rules.specs.WellFormed as rules
use Rattle.rules.specs.WellFormed.{is_lt, rising, fieldNames}
use Rattle.records.specs.Holds.{atomOf, Shows, Long, HoldsFactors, HoldsProduct, Holds, HoldsTys, HoldsFields, HoldsCon, HoldsBinding, HoldsBound}
use Rattle.records.specs.Views.{longAt}
use Rattle.records.specs.declared.Atom.{Atom}
use Rattle.records.specs.declared.View.TheVariants as view

-- some part ends there; or none does
abbrev pub Ends : {A : Type 0} → (A → ℕ → Type 0) → Option ℕ → Type 0
Ends {A} P (Some e) = (a : A) × P a e
Ends {A} P None = (a : A) (e : ℕ) → P a e → ⊥

-- the end of a part, if its first record says so
abbrev pub endIf : Bool → ℕ → Option ℕ
endIf true e = Some e
endIf false e = None

abbrev pub closedAt : List ℕ → ℕ → ℕ → Option ℕ
closedAt s at e = endIf (eqb (at + longAt s at) e) e

module _ (pool table : List ℕ) where
  abbrev pub numbers : Names ℕ
  numbers = numbersOf (table_of pool table)

  abbrev pub holding : ℕ → Bool
  holding = is_held (table_of pool table)

  -- a name after the one before
  abbrev pub follows : Option ℕ → ℕ → Bool
  follows None x = true
  follows (Some y) x = is_lt (numbers.order y x)

  abbrev pub risingFrom : Option ℕ → List ℕ → Bool
  risingFrom None xs = rising numbers.order xs
  risingFrom (Some y) xs = rising numbers.order (y ∷ xs)

  abbrev pub atomFollows : Option Atom → tree.Atom ℕ → Bool
  atomFollows None a = true
  atomFollows (Some b) a = is_lt (orderAtom numbers (atomOf b) a)

  abbrev pub atomsFrom : Option Atom → List (tree.Atom ℕ) → Bool
  atomsFrom None as' = rising (orderAtom numbers) as'
  atomsFrom (Some b) as' = rising (orderAtom numbers) (atomOf b ∷ as')

  module _ (q : ℕ) where
    abbrev pub goodOpen : tree.Open ℕ → Bool
    goodOpen o = rules.goodOpen numbers holding q o

    abbrev pub goodAtom : tree.Atom ℕ → Bool
    goodAtom (tree.free o) = goodOpen o
    goodAtom (tree.base x) = holding x

    abbrev pub goodFactors : Product ℕ → Bool
    goodFactors p = all (rules.goodFactor numbers holding q) p

    abbrev pub goodProduct : Product ℕ → Bool
    goodProduct p = rules.goodProduct numbers holding q p

    abbrev pub goodTy : Ty ℕ → Bool
    goodTy t = rules.goodTy numbers holding q t

    abbrev pub goodTys : Tys ℕ → Bool
    goodTys ts = rules.goodTys numbers holding q ts

    abbrev pub goodFields : Fields ℕ → Bool
    goodFields fs = rules.goodFields numbers holding q fs

    abbrev pub goodCon : Con ℕ → Bool
    goodCon c = rules.goodCon numbers holding q c

    abbrev pub goodBinding : Binding ℕ → Bool
    goodBinding b = rules.goodBinding numbers holding q b

    module _ (s : List ℕ) where
      -- n factors from `at` up to e, after the atom l
      pub record GoodFactors (at n : ℕ) (l : Option Atom) (p : Product ℕ) (e : ℕ) : Type 0 where
        pub held : HoldsFactors s p at
        pub many : length p ≡ n
        pub past : e ≡ at + n
        pub good : goodFactors p ≡ true
        pub rises : atomsFrom l (map rules.atomOf p) ≡ true

      -- the n factors of a product
      pub record GoodDim (at n : ℕ) (p : Product ℕ) (e : ℕ) : Type 0 where
        pub held : HoldsFactors s p at
        pub many : length p ≡ n
        pub past : e ≡ at + n
        pub good : goodProduct p ≡ true

      pub record GoodTy (d at : ℕ) (t : Ty ℕ) (e : ℕ) : Type 0 where
        pub held : Holds s t at
        pub past : e ≡ at + size t
        pub deep : depth t ≤ d
        pub good : goodTy t ≡ true

      pub record GoodTys (d at n : ℕ) (ts : Tys ℕ) (e : ℕ) : Type 0 where
        pub held : HoldsTys s ts at
        pub many : count ts ≡ n
        pub past : e ≡ at + sizeTys ts
        pub deep : depthTys ts ≤ d
        pub good : goodTys ts ≡ true

      -- n fields from `at` up to e, after the name b
      pub record GoodFields (d at n : ℕ) (b : Option ℕ) (fs : Fields ℕ) (e : ℕ) : Type 0 where
        pub held : HoldsFields s fs at
        pub many : countFields fs ≡ n
        pub past : e ≡ at + sizeFields fs
        pub deep : depthFields fs ≤ d
        pub good : goodFields fs ≡ true
        pub rises : risingFrom b (fieldNames fs) ≡ true

      -- a product with its head
      pub record GoodProduct (at : ℕ) (p : Product ℕ) (e : ℕ) : Type 0 where
        pub held : HoldsProduct s p at
        pub past : e ≡ at + suc (length p)
        pub good : goodProduct p ≡ true

      -- two types, one after the other
      pub record GoodTwo (at : ℕ) (two : Ty ℕ × Ty ℕ) (e : ℕ) : Type 0 where
        pub left : Holds s two.0 at
        pub right : Holds s two.1 (at + size two.0)
        pub past : e ≡ at + (size two.0 + size two.1)
        pub deepLeft : depth two.0 ≤ 64
        pub deepRight : depth two.1 ≤ 64
        pub goodLeft : goodTy two.0 ≡ true
        pub goodRight : goodTy two.1 ≡ true

      pub record GoodCon (at : ℕ) (c : Con ℕ) (e : ℕ) : Type 0 where
        pub held : HoldsCon s c at
        pub past : e ≡ at + sizeCon c
        pub deep : depthCon c ≤ 64
        pub good : goodCon c ≡ true

      pub record GoodBinding (at : ℕ) (b : Binding ℕ) (e : ℕ) : Type 0 where
        pub held : HoldsBinding s b at
        pub past : e ≡ at + sizeBinding b
        pub deep : depthBinding b ≤ 64
        pub good : goodBinding b ≡ true

      -- a bound as it is read: a variable's name or an index
      pub record GoodBound (at : ℕ) (o : tree.Open ℕ) (e : ℕ) : Type 0 where
        pub held : HoldsBound s o at
        pub past : e ≡ at + 1
        pub good : goodOpen o ≡ true

-- ══ Parts one after another ══

-- from `at` up to the end n
abbrev pub Chain : {A : Type 0} → (ℕ → A → ℕ → Type 0) → ℕ → List A → ℕ → Type 0
Chain P n [] at = at ≡ n
Chain P n (a ∷ as') at = (e : ℕ) × (P at a e × Chain P n as' e)

-- there are such parts; or there are none
abbrev pub Chained : {A : Type 0} → (ℕ → A → ℕ → Type 0) → ℕ → ℕ → Bool → Type 0
Chained {A} P n at true = (as' : List A) × Chain P n as' at
Chained {A} P n at false = (as' : List A) → Chain P n as' at → ⊥

-- ══ A whole list ══

-- there is such a thing; or there is none
abbrev pub There : {A : Type 0} → (A → Type 0) → Bool → Type 0
There {A} P true = (a : A) × P a
There {A} P false = (a : A) → P a → ⊥

-- a scheme takes all records: its type, then its bounds
abbrev pub GoodScheme : List ℕ → List ℕ → List ℕ → Scheme ℕ → Type 0
GoodScheme pool table s (concrete t) = Shows s 0 view.Concrete × GoodTy pool table 0 s 64 1 t (length s / 4) × Long s 0 (length s / 4)
GoodScheme pool table s (scheme n t bs) = Shows s 0 (view.Scheme n)
    × ((e : ℕ) × (GoodTy pool table n s 64 1 t e × Chain (GoodBound pool table n s) (length s / 4) bs e)) × Long s 0 (length s / 4)
