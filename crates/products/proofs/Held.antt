-- What follows from the definitions of specs/Held: well formed products, factor by factor, and the test of a product.
use Rattle.std.proofs.Math.Path.{◌≡◌, refl, ap, sym}
use Rattle.std.proofs.Common.{◌∙◌, subst, inl, inr, length-take-le, get_or-take, take-take, take_at, length-append}
use Rattle.std.specs.Prelude.{Bool, ◌⊎◌, List, [], ◌∷◌, ◌++◌, map, ℕ, zero, suc, ◌+◌, ◌-◌, ◌<◌, ◌≤◌, take, get_or, replicate}
use Rattle.std.proofs.Math.Bool.{true, false}
use Rattle.std.proofs.Math.Option.{Option, none, some}
use Prim.Native.Nat.{Ordering}
use Rattle.std.proofs.Math.Decide.{dec_lt}
use native.Mathlib.Omega.{arith}
use borrow.Author.Tests.{leb-true, le-leb}
use Rattle.std.proofs.Math.Dec.{leb}
use Rattle.std.proofs.Math.ListN.{length, length-map}
use Rattle.std.proofs.lemmas.List.{length-replicate, take-map}
use Rattle.rules.specs.Base.{Got, got, refused, ◌>>=◌, ◌>>◌, need, orRefuse}
use Rattle.rules.specs.Names.{table_of, names_of, numbersOf, is_held}
use Rattle.rules.specs.Products.{inverse}
use Rattle.rules.specs.Trees as Trees
use Rattle.rules.specs.Trees.{var, quant, par, free, base, ◌↑◌, Names, orderAtom}
use Rattle.rules.specs.Values.{ProductValue, blank, kind_of, number_in, atomIn, value_of, factorIn, factorsIn, productValue, productIn, productGiven}
use Rattle.rules.specs.WellFormed.{goodProduct}
use Rattle.laws.specs.Lists.{Every}
use Rattle.laws.specs.Order.{Lawful}
use Rattle.laws.proofs.ByteOrder.{atom-lawful, numbered-lawful}
use Rattle.laws.specs.Sorted.{Sorted}
use Rattle.laws.proofs.Sorted.{sooner}
use Rattle.laws.proofs.GoodProducts.{GoodFactor, GoodProduct, good-product, product-good, inverse-good}
use Rattle.products.specs.declared.Factor.{Factor}
use Rattle.products.specs.declared.Product.{Product}
use Rattle.products.specs.Told.{Tree, unread, valueIn, given, atomAt, tree_of, productOf, heldIn, factorAt, isGot}
use Rattle.products.specs.Kinds.{Kind, Fine}
use Rattle.products.proofs.OnKinds.{kind-of, factor-back, factor-none}
use Rattle.products.specs.Held.{Sound, Well}

pub well-sound : {pool table : List ℕ} {p : Product} → Well pool table p → Sound p
well-sound w = record { few = w.few; long = w.long; kind = λ i h. (w.each i h).kind; stored = λ i h. (w.each i h).stored }

-- the first i factors are well formed
pub record Seen (pool table : List ℕ) (p : Product) (i : ℕ) : Type 0 where
  pub each : (k : ℕ) → k < i → Fine (numbersOf (table_of pool table)) (heldIn table) (factorAt p k)
  pub rises : (k : ℕ) → suc k < i → orderAtom (numbersOf (table_of pool table)) (atomAt (factorAt p k)) (atomAt (factorAt p (suc k))) ≡ Ordering.lt

module _ {pool table : List ℕ} {p : Product} where
  pub seen_none : Seen pool table p 0
  seen_none = record { each = λ k h. absurd (omega arith); rises = λ k h. absurd (omega arith) }

  pub seen_first : Fine (numbersOf (table_of pool table)) (heldIn table) (factorAt p 0) → Seen pool table p 1
  seen_first f = record {
    each = λ k h. let e : 0 ≡ k = omega arith in
        subst (λ (j : ℕ). Fine (numbersOf (table_of pool table)) (heldIn table) (factorAt p j)) e f;
    rises = λ k h. absurd (omega arith);
  }

  -- one factor more, behind the last
  pub seen_next : (k : ℕ) → Seen pool table p (suc k) → Fine (numbersOf (table_of pool table)) (heldIn table) (factorAt p (suc k))
      → orderAtom (numbersOf (table_of pool table)) (atomAt (factorAt p k)) (atomAt (factorAt p (suc k))) ≡ Ordering.lt → Seen pool table p (suc (suc k))
  seen_next k s f o = record { each = λ j h. one j (dec_lt j (suc k)) h; rises = λ j h. two j (dec_lt (suc j) (suc k)) h }
    where
      one : (j : ℕ) → Dec (j < suc k) → j < suc (suc k) → Fine (numbersOf (table_of pool table)) (heldIn table) (factorAt p j)
      one j (yes h) i = s.each j h
      one j (no h) i = let e : suc k ≡ j = omega arith in subst (λ (j : ℕ). Fine (numbersOf (table_of pool table)) (heldIn table) (factorAt p j)) e f

      two : (j : ℕ) → Dec (suc j < suc k) → suc j < suc (suc k)
          → orderAtom (numbersOf (table_of pool table)) (atomAt (factorAt p j)) (atomAt (factorAt p (suc j))) ≡ Ordering.lt
      two j (yes h) i = s.rises j h
      two j (no h) i = let e : k ≡ j = omega arith in
          subst (λ (j : ℕ). orderAtom (numbersOf (table_of pool table)) (atomAt (factorAt p j)) (atomAt (factorAt p (suc j))) ≡ Ordering.lt) e o

  pub seen_more : (i : ℕ) → 1 ≤ i → Seen pool table p i → Fine (numbersOf (table_of pool table)) (heldIn table) (factorAt p i)
      → orderAtom (numbersOf (table_of pool table)) (atomAt (factorAt p (i - 1))) (atomAt (factorAt p i)) ≡ Ordering.lt → Seen pool table p (i + 1)
  seen_more zero h s f o = absurd (omega arith)
  seen_more (suc k) h s f o =
      let e : suc k - 1 ≡ k = omega arith in
      let d : suc (suc k) ≡ suc k + 1 = omega arith in
      subst (Seen pool table p) d
      (seen_next k s f (subst (λ (j : ℕ). orderAtom (numbersOf (table_of pool table)) (atomAt (factorAt p j)) (atomAt (factorAt p (suc k)))
      ≡ Ordering.lt) e o))

  pub seen-well : p.len ≤ 64 → length p.factors ≡ 64 → Seen pool table p p.len → Well pool table p
  seen-well few long s = record { few = few; long = long; each = s.each; rises = s.rises }

some-injective : {a b : Tree} → some a ≡ some b → a ≡ b
some-injective h = cc

-- ══ By place, and by list ══

abbrev Rises : Names ℕ → List Factor → Type 0
Rises ν [] = Unit {0}
Rises ν (x ∷ []) = Unit {0}
Rises ν (x ∷ y ∷ l) = (orderAtom ν (atomAt x) (atomAt y) ≡ Ordering.lt) × Rises ν (y ∷ l)

each_at : (P : Factor → Type 0) (l : List Factor) → Every P l → (i : ℕ) → i < length l → P (get_or l i unread)
each_at P [] h i k = absurd (omega arith)
each_at P (f ∷ l) h zero k = h.0
each_at P (f ∷ l) h (suc i) k = each_at P l h.1 i (omega arith)

at_each : (P : Factor → Type 0) (l : List Factor) → ((i : ℕ) → i < length l → P (get_or l i unread)) → Every P l
at_each P [] h = tt
at_each P (f ∷ l) h = (h 0 (omega arith), at_each P l (λ i k. h (suc i) (omega arith)))

module _ (ν : Names ℕ) where
  rises-at : (l : List Factor) → Rises ν l → (i : ℕ) → suc i < length l
      → orderAtom ν (atomAt (get_or l i unread)) (atomAt (get_or l (suc i) unread)) ≡ Ordering.lt
  rises-at [] h i k = absurd (omega arith)
  rises-at (x ∷ []) h i k = absurd (omega arith)
  rises-at (x ∷ y ∷ l) h zero k = h.0
  rises-at (x ∷ y ∷ l) h (suc i) k = rises-at (y ∷ l) h.1 i (omega arith)

  at-rises : (l : List Factor)
      → ((i : ℕ) → suc i < length l → orderAtom ν (atomAt (get_or l i unread)) (atomAt (get_or l (suc i) unread)) ≡ Ordering.lt) → Rises ν l
  at-rises [] h = tt
  at-rises (x ∷ []) h = tt
  at-rises (x ∷ y ∷ l) h = (h 0 (omega arith), at-rises (y ∷ l) (λ i k. h (suc i) (omega arith)))

-- ══ The factors of a list of known kinds ══

known : (l : List Factor) → Every (λ f. Kind f.kind) l → factorsIn (map valueIn l) ≡ some (map tree_of l)
unfolding factorsIn
known [] h = refl
known (f ∷ l) h = rw (factor-back f h.0, known l h.1)

all_known : (l : List Factor) (t : Tree) → factorsIn (map valueIn l) ≡ some t → Every (λ f. Kind f.kind) l
unfolding factorsIn
all_known [] t h = tt
all_known (f ∷ l) t h = go (kind-of f.kind f.name) (factorsIn (map valueIn l)) refl (all_known l)
  where
    go : Kind f.kind ⊎ (atomIn f.kind f.name ≡ none) → (o : Option Tree) → factorsIn (map valueIn l) ≡ o
        → ((t : Tree) → factorsIn (map valueIn l) ≡ some t → Every (λ f. Kind f.kind) l) → Every (λ f. Kind f.kind) (f ∷ l)
    go (inl k) (some r) e rest = (k, rest r e)
    go (inl k) none e rest = let z : none ≡ some t = rw (factor-back f k, e) at h in absurd (cc)
    go (inr n) o e rest = let z : none ≡ some t = rw (factor-none f n) at h in absurd (cc)

-- the product that a value is, if its kinds are known
pub product-in : (p : Product) → p.len ≤ 64 → Every (λ f. Kind f.kind) (take p.len p.factors) → productIn (given p) ≡ some (productOf p)
unfolding productIn given productOf
product-in p h k = rw (le-leb _ _ h, take-map valueIn p.len p.factors) (known (take p.len p.factors) k)

module _ (p : Product) where
  in-few : (t : Tree) → productIn (given p) ≡ some t → p.len ≤ 64
  unfolding productIn given
  in-few t h = go (leb p.len 64) refl
    where
      go : (b : Bool) → leb p.len 64 ≡ b → p.len ≤ 64
      go true e = leb-true p.len 64 e
      go false e = let z : none ≡ some t = rw e at h in absurd (cc)

  in-known : (t : Tree) → productIn (given p) ≡ some t → Every (λ f. Kind f.kind) (take p.len p.factors)
  unfolding productIn given
  in-known t h = all_known (take p.len p.factors) t (rw (le-leb _ _ (in-few t h), take-map valueIn p.len p.factors) at h)

-- ══ The test of a product ══

module _ (ν : Names ℕ) (held : ℕ → Bool) where
  each-good : (l : List Factor) → Every (Fine ν held) l → Every (GoodFactor ν held 4_294_967_296) (map tree_of l)
  each-good [] h = tt
  each-good (f ∷ l) h = ((h.0.atom, h.0.stored), each-good l h.1)

  good-each : (l : List Factor) → Every (λ f. Kind f.kind) l → Every (GoodFactor ν held 4_294_967_296) (map tree_of l) → Every (Fine ν held) l
  good-each [] k h = tt
  good-each (f ∷ l) k h = (record { kind = k.0; atom = h.0.0; stored = h.0.1 }, good-each l k.1 h.1)

  sorted_rises : (l : List Factor) → Sorted ν (map tree_of l) → Rises ν l
  sorted_rises [] h = tt
  sorted_rises (x ∷ []) h = tt
  sorted_rises (x ∷ y ∷ l) h = (h.0.0, sorted_rises (y ∷ l) h.1)

  rises_sorted : Lawful (orderAtom ν) → (l : List Factor) → Rises ν l → Sorted ν (map tree_of l)
  rises_sorted law [] h = tt
  rises_sorted law (x ∷ []) h = (tt, tt)
  rises_sorted law (x ∷ y ∷ l) h = let s = rises_sorted law (y ∷ l) h.1 in ((h.0, sooner ν law (atomAt x) (atomAt y) (map tree_of l) h.0 s.0), s)

module _ (pool table : List ℕ) where
  abbrev pub numbers : Names ℕ
  numbers = numbersOf (table_of pool table)

  -- the order of factors is lawful
  pub law : Lawful (orderAtom numbers)
  law = atom-lawful numbers (numbered-lawful (names_of (table_of pool table)))

  good-here : (t : Tree) → goodProduct numbers (is_held (table_of pool table)) 4_294_967_296 t ≡ true → GoodProduct numbers (heldIn table) 4_294_967_296 t
  unfolding table_of
  good-here t h = good-product numbers law (heldIn table) 4_294_967_296 t h

  here-good : (t : Tree) → GoodProduct numbers (heldIn table) 4_294_967_296 t → goodProduct numbers (is_held (table_of pool table)) 4_294_967_296 t ≡ true
  unfolding table_of
  here-good t g = product-good numbers law (heldIn table) 4_294_967_296 t g

  module _ (p : Product) where
    -- the factors that count
    abbrev counted : List Factor
    counted = take p.len p.factors

    module _ (long : length p.factors ≡ 64) (few : p.len ≤ 64) where
      places : length counted ≡ p.len
      places = length-take-le p.len p.factors (omega arith)

      at-counted : (i : ℕ) → i < p.len → get_or counted i unread ≡ factorAt p i
      at-counted i h = get_or-take p.len p.factors i unread h

    module _ (w : Well pool table p) where
      well-each : Every (Fine numbers (heldIn table)) counted
      well-each =
          at_each (Fine numbers (heldIn table)) counted (λ i h.
          let k : i < p.len = omega (arith, places w.long w.few) in
          rw (at-counted w.long w.few i k) (w.each i k))

      well-rises : Rises numbers counted
      well-rises =
          at-rises numbers counted (λ i h.
          let k : suc i < p.len = omega (arith, places w.long w.few) in
          let j : i < p.len = omega arith in
          rw (at-counted w.long w.few i j, at-counted w.long w.few (suc i) k) (w.rises i k))

      pub well-good : goodProduct numbers (is_held (table_of pool table)) 4_294_967_296 (productOf p) ≡ true
      unfolding productOf
      well-good = here-good (productOf p) (record {
        in_order = rises_sorted numbers (heldIn table) law counted well-rises;
        each = each-good numbers (heldIn table) counted well-each;
        few = omega (arith, length-map counted tree_of, places w.long w.few, w.few);
      })

      well-known : (l : List Factor) → Every (Fine numbers (heldIn table)) l → Every (λ f. Kind f.kind) l
      well-known [] h = tt
      well-known (f ∷ l) h = (h.0.kind, well-known l h.1)

      -- a well formed product is taken in
      pub well-given : productGiven pool table (given p) ≡ got (productOf p)
      unfolding productGiven
      well-given = rw (product-in p w.few (well-known counted well-each), well-good)

    -- and only such a product
    module _ (long : length p.factors ≡ 64) where
      pub record Taken (t : Tree) : Type 0 where
        pub well : Well pool table p
        pub is : t ≡ productOf p

      good-well : p.len ≤ 64 → Every (λ f. Kind f.kind) counted
          → goodProduct numbers (is_held (table_of pool table)) 4_294_967_296 (productOf p) ≡ true → Well pool table p
      unfolding productOf
      good-well few k h =
          let g = good-here (productOf p) h in
          let e = good-each numbers (heldIn table) counted k g.each in
          let r = sorted_rises numbers (heldIn table) counted g.in_order in
          record {
            few = few;
            long = long;
            each = λ i j. rw (at-counted long few i j) at (each_at (Fine numbers (heldIn table)) counted e i (omega (arith, places long few)));
            rises = λ i j.
                let n : i < p.len = omega arith in
                rw (at-counted long few i n, at-counted long few (suc i) j) at (rises-at numbers counted r i (omega (arith, places long few)));
          }

      pub given-well : (t : Tree) → productGiven pool table (given p) ≡ got t → Taken t
      unfolding productGiven
      given-well t h = go (productIn (given p)) refl h
        where
          test : (b : Bool) → goodProduct numbers (is_held (table_of pool table)) 4_294_967_296 (productOf p) ≡ b → p.len ≤ 64
              → Every (λ f. Kind f.kind) counted → (need b 1 >> got (productOf p)) ≡ got t → Taken t
          test true e few k j = record { well = good-well few k e; is = cc }
          test false e few k j = absurd (cc)

          go : (o : Option Tree) → productIn (given p) ≡ o
              → (orRefuse 1 o >>= λ r. need (goodProduct numbers (is_held (table_of pool table)) 4_294_967_296 r) 1 >> got r) ≡ got t → Taken t
          go none e j = absurd (cc)
          go (some r) e j =
              let few = in-few p r e in
              let k = in-known p r e in
              let same : r ≡ productOf p = some-injective (sym e ∙ product-in p few k) in
              test _ refl few k (rw same at j)

      pub taken-well : isGot (productGiven pool table (given p)) ≡ true → Well pool table p
      taken-well h = go (productGiven pool table (given p)) refl h
        where
          go : (m : Got Tree) → productGiven pool table (given p) ≡ m → isGot m ≡ true → Well pool table p
          go (got t) e k = (given-well t e).well
          go (refused n) e k = absurd (cc)

      pub not_taken : (Well pool table p → ⊥) → isGot (productGiven pool table (given p)) ≡ false
      not_taken f = go (productGiven pool table (given p)) refl
        where
          go : (m : Got Tree) → productGiven pool table (given p) ≡ m → isGot m ≡ false
          go (got t) e = absurd (f (given-well t e).well)
          go (refused n) e = refl

  -- what is not taken in is refused with 1
  pub refused-one : (v : ProductValue) → isGot (productGiven pool table v) ≡ false → productGiven pool table v ≡ refused 1
  unfolding productGiven
  refused-one v h = go (productIn v) h
    where
      test : (r : Tree) (b : Bool) → isGot (need b 1 >> got r) ≡ false → (need b 1 >> got r) ≡ refused 1
      test r true k = absurd (cc)
      test r false k = refl

      go : (o : Option Tree) → isGot (orRefuse 1 o >>= λ r. need (goodProduct numbers (is_held (table_of pool table)) 4_294_967_296 r) 1 >> got r) ≡ false
          → (orRefuse 1 o >>= λ r. need (goodProduct numbers (is_held (table_of pool table)) 4_294_967_296 r) 1 >> got r) ≡ refused 1
      go none k = refl
      go (some r) k = test r (goodProduct numbers (is_held (table_of pool table)) 4_294_967_296 r) k

-- ══ A product that was made ══

value-back : (f : Trees.Factor ℕ) → factorIn (value_of f) ≡ some f
unfolding factorIn value_of atomIn kind_of number_in
value-back (free (var x) ↑ e) = refl
value-back (free (quant i) ↑ e) = refl
value-back (free (par x) ↑ e) = refl
value-back (base x ↑ e) = refl

values-back : (t : Tree) → factorsIn (map value_of t) ≡ some t
unfolding factorsIn
values-back [] = refl
values-back (f ∷ t) = rw (value-back f, values-back t)

-- a product's value is that product
pub product-back : (t : Tree) → length t ≤ 64 → productIn (productValue t) ≡ some t
unfolding productIn productValue
product-back t h =
    let n = length-map t value_of in
    rw (
      le-leb (length t) 64 h,
      take-take (length t) 64 (map value_of t ++ replicate 64 blank) h,
      take_at (map value_of t) (replicate 64 blank)
          (length t) n,
    ) (values-back t)

length-value : (t : Tree) → length (productValue t).factors ≡ 64
unfolding productValue
length-value t = length-take-le 64 (map value_of t ++ replicate 64 blank)
    (omega (arith, length-append (map value_of t) (replicate 64 blank), length-replicate 64 blank))

module _ (pool table : List ℕ) (p : Product) (t : Tree) (is : given p ≡ productValue t) where
  pub made-long : length p.factors ≡ 64
  unfolding given
  made-long = sym (length-map p.factors valueIn) ∙ ap (λ (v : ProductValue). length v.factors) is ∙ length-value t

  -- what holds the value of a well formed product is well formed, and is that product
  pub made : goodProduct (numbersOf (table_of pool table)) (is_held (table_of pool table)) 4_294_967_296 t ≡ true → Taken pool table p made-long t
  unfolding productGiven
  made h =
      let few = (good-here pool table t h).few in
      given-well pool table p made-long t (rw (is, product-back t few, h))

-- the inverse of a well formed product is well formed
pub inverse-well : (pool table : List ℕ) (p r : Product) → Well pool table p → (is : given r ≡ productValue (inverse (productOf p)))
    → Taken pool table r (made-long pool table r (inverse (productOf p)) is) (inverse (productOf p))
inverse-well pool table p r w is =
    made pool table r (inverse (productOf p)) is
    (inverse-good (numbers pool table) (law pool table) (is_held (table_of pool table)) 4_294_967_296 (productOf p) (well-good pool table p w))
