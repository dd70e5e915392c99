-- What follows from the definitions of specs/Powers: products in exact arithmetic: a product is its powers, atom by atom. Products are a commutative group,
-- raising is a homomorphism.
use Rattle.std.specs.Prelude.{◌≡◌, Bool, false}
use Rattle.std.proofs.Math.Path.{refl, ap, ap₂, sym}
use Rattle.std.proofs.Common.{◌∙◌, subst}
use Rattle.std.proofs.Math.Bool.{true}
use mathlib.Core.List.{[], ◌∷◌}
use Prim.Native.Nat.{Ordering}
use Rattle.rules.specs.Base.{got, exact}
use Rattle.rules.specs.Exponents.{Exp, nought, one, isZero, neg, plus, mul, sum, times}
use Rattle.rules.specs.Trees.{Atom, ◌↑◌, Product, Names, orderAtom}
use Rattle.rules.specs.Products.{put, inverse}
use Rattle.laws.specs.Lists.{Every}
use Rattle.laws.specs.Order.{Lawful, Tells}
use Rattle.laws.proofs.Order.{before_differs, after}
use Rattle.laws.specs.Fractions.{Lowest}
use Rattle.laws.proofs.Fractions.{
  nought-lowest,
  one-lowest,
  neg-lowest,
  plus-in-lowest,
  mul-in-lowest,
  plus_comm,
  plus_assoc,
  plus-nought,
  plus-neg,
  mul-assoc',
  mul-plus,
  mul-one',
  zero-is-nought,
  neg-zero,
  mul-nought,
  nought-mul,
  nought-plus,
  plus-mul,
  mul-neg,
  neg-neg,
}
use Rattle.laws.specs.Sorted.{Before, Sorted}
use Rattle.laws.proofs.Sorted.{sooner, beside, merge-sorted, raise-behind, raise-sorted, inverse-sorted, merge-each, raise-each, inverse-each}
use Rattle.laws.specs.ExactProducts.{mergeE, mergeOneE, raiseE}
use Rattle.laws.proofs.ExactProducts.{merge-exact, raise-exact, sum-exact, times-exact}
use Rattle.laws.specs.Powers.{pick, atom-dec, powerOf, Sound, Proper}

module _ {N : Type 0} (ν : Names N) where
  pub power-here : (a : Atom N) (e : Exp) (p : Product N) → powerOf ν a (a ↑ e ∷ p) ≡ e
  unfolding powerOf
  power-here a e p = go (atom-dec ν a a)
    where
      go : (d : Dec (a ≡ a)) → pick d e (powerOf ν a p) ≡ e
      go (yes h) = refl
      go (no f) = absurd (f refl)

  pub power-there : (a b : Atom N) (e : Exp) (p : Product N) → ¬ (a ≡ b) → powerOf ν a (b ↑ e ∷ p) ≡ powerOf ν a p
  unfolding powerOf
  power-there a b e p h = go (atom-dec ν a b)
    where
      go : (d : Dec (a ≡ b)) → pick d e (powerOf ν a p) ≡ powerOf ν a p
      go (yes i) = absurd (h i)
      go (no f) = refl

module _ {N : Type 0} (ν : Names N) (Held : Atom N → Type 0) where
  power-lowest : (a : Atom N) (p : Product N) → Every (Sound Held) p → Lowest (powerOf ν a p)
  unfolding powerOf
  power-lowest a [] h = nought-lowest
  power-lowest a (b ↑ e ∷ p) h = go (atom-dec ν a b) (power-lowest a p h.1)
    where
      go : (d : Dec (a ≡ b)) → Lowest (powerOf ν a p) → Lowest (pick d e (powerOf ν a p))
      go (yes i) l = h.0.1
      go (no f) l = l

module _ {N : Type 0} (ν : Names N) {Held : Atom N → Type 0} (law : Lawful (orderAtom ν)) (tells : Tells Held (orderAtom ν)) where
  -- an atom that stands before a product doesn't occur in it
  absent : (a : Atom N) (p : Product N) → Before ν a p → powerOf ν a p ≡ nought
  unfolding powerOf
  absent a [] h = refl
  absent a (b ↑ e ∷ p) h = power-there ν a b e p (before_differs law a b h.0) ∙ absent a p h.1

  put-power : (c a : Atom N) (s : Exp) (r : Product N) → Before ν a r → Lowest s → powerOf ν c (put a s r) ≡ pick (atom-dec ν c a) s (powerOf ν c r)
  unfolding powerOf
  put-power c a s r h l = go (isZero s) refl
    where
      gone : isZero s ≡ true → (d : Dec (c ≡ a)) → powerOf ν c r ≡ pick d s (powerOf ν c r)
      gone z (yes e) = ap (λ (x : Atom N). powerOf ν x r) e ∙ absent a r h ∙ sym (zero-is-nought s l z)
      gone z (no f) = refl

      go : (b : Bool) → isZero s ≡ b → powerOf ν c (put a s r) ≡ pick (atom-dec ν c a) s (powerOf ν c r)
      go true z = rw (z, put) (gone z (atom-dec ν c a))
      go false z = rw (z, put)

  -- ══ Results are such products ══

  pub merge-proper : (p q : Product N) → Proper ν Held p → Proper ν Held q → Proper ν Held (mergeE ν p q)
  merge-proper p q h k = record {
    in_order = ((merge-sorted ν law exact p q h.in_order k.in_order).holds (mergeE ν p q) (merge-exact ν p q)).0;
    each = (merge-each (Sound Held) ν exact adds p q h.each k.each).holds (mergeE ν p q) (merge-exact ν p q);
  }
    where
      adds : (a b : Atom N) (e d s : Exp) → Sound Held (a ↑ e) → Sound Held (b ↑ d) → sum exact e d ≡ got s → isZero s ≡ false → Sound Held (a ↑ s)
      adds a b e d s x y i z = (x.0, subst Lowest (sum-exact e d s i) (plus-in-lowest e d x.1 y.1), z)

  pub raise-proper : (p : Product N) (k : Exp) → Proper ν Held p → Lowest k → Proper ν Held (raiseE p k)
  raise-proper p k h l = record {
    in_order = (raise-sorted ν law exact p k h.in_order).holds (raiseE p k) (raise-exact ν p k);
    each = (raise-each (Sound Held) ν exact k scales p h.each).holds (raiseE p k) (raise-exact ν p k);
  }
    where
      scales : (a : Atom N) (e s : Exp) → Sound Held (a ↑ e) → times exact e k ≡ got s → isZero s ≡ false → Sound Held (a ↑ s)
      scales a e s x i z = (x.0, subst Lowest (times-exact e k s i) (mul-in-lowest e k x.1 l), z)

  pub inverse-proper : (p : Product N) → Proper ν Held p → Proper ν Held (inverse p)
  inverse-proper p h = record {
    in_order = inverse-sorted ν law p h.in_order;
    each = inverse-each (Sound Held) (λ a e x. (x.0, neg-lowest e x.1, neg-zero e ∙ x.2)) p h.each;
  }

  -- ══ Powers, atom by atom ══

  low : (c : Atom N) (p : Product N) → Proper ν Held p → Lowest (powerOf ν c p)
  low c p h = power-lowest ν Held c p h.each

  one_power : (c a : Atom N) (e : Exp) (p : Product N) (m : Product N → Product N) → Sound Held (a ↑ e) → Before ν a p → Every (Sound Held) p
      → ((q : Product N) → Sorted ν q → Every (Sound Held) q → powerOf ν c (m q) ≡ plus (powerOf ν c p) (powerOf ν c q))
      → ((q : Product N) → Sorted ν q → Before ν a q → Before ν a (m q))
      → (q : Product N) → Sorted ν q → Every (Sound Held) q → powerOf ν c (mergeOneE ν a e p m q) ≡ plus (powerOf ν c (a ↑ e ∷ p)) (powerOf ν c q)
  unfolding powerOf mergeOneE
  one_power c a e p m h i j f g [] k n = sym (plus-nought (powerOf ν c (a ↑ e ∷ p)) (power-lowest ν Held c (a ↑ e ∷ p) (h, j)))
  one_power c a e p m h i j f g (b ↑ d ∷ q) k n = go (orderAtom ν a b) refl (one_power c a e p m h i j f g q k.1 n.1)
    where
      first : orderAtom ν a b ≡ Ordering.lt → (x : Dec (c ≡ a))
          → pick x e (powerOf ν c (m (b ↑ d ∷ q))) ≡ plus (pick x e (powerOf ν c p)) (powerOf ν c (b ↑ d ∷ q))
      first o (yes t) =
          sym (ap (plus e) (ap (λ (x : Atom N). powerOf ν x (b ↑ d ∷ q)) t ∙ absent a (b ↑ d ∷ q) (o, sooner ν law a b q o k.0)) ∙ plus-nought e h.1)
      first o (no t) = f (b ↑ d ∷ q) k n

      both : (x : Dec (c ≡ a)) → pick x (plus e d) (powerOf ν c (m q)) ≡ plus (pick x e (powerOf ν c p)) (pick x d (powerOf ν c q))
      both (yes t) = refl
      both (no t) = f q k.1 n.1

      second : orderAtom ν b a ≡ Ordering.lt → powerOf ν c (mergeOneE ν a e p m q) ≡ plus (powerOf ν c (a ↑ e ∷ p)) (powerOf ν c q) → (x : Dec (c ≡ b))
          → pick x d (powerOf ν c (mergeOneE ν a e p m q)) ≡ plus (powerOf ν c (a ↑ e ∷ p)) (pick x d (powerOf ν c q))
      second o r (yes t) =
          sym (ap (λ (x : Exp). plus x d) (ap (λ (x : Atom N). powerOf ν x (a ↑ e ∷ p)) t ∙ absent b (a ↑ e ∷ p) (o, sooner ν law b a p o i))
          ∙ nought-plus d n.0.1)
      second o r (no t) = r

      go : (o : Ordering) → orderAtom ν a b ≡ o → powerOf ν c (mergeOneE ν a e p m q) ≡ plus (powerOf ν c (a ↑ e ∷ p)) (powerOf ν c q)
          → powerOf ν c (mergeOneE ν a e p m (b ↑ d ∷ q)) ≡ plus (powerOf ν c (a ↑ e ∷ p)) (powerOf ν c (b ↑ d ∷ q))
      go Ordering.lt o r = rw (o, mergeOneE) (first o (atom-dec ν c a))
      go Ordering.eq o r =
          rw (o, mergeOneE)
          (put-power c a (plus e d) (m q) (g q k.1 (beside ν law a b q o k.0)) (plus-in-lowest e d h.1 n.0.1)
          ∙ subst (λ (x : Atom N). pick (atom-dec ν c a) (plus e d) (powerOf ν c (m q)) ≡ plus (powerOf ν c (a ↑ e ∷ p)) (powerOf ν c (x ↑ d ∷ q)))
          (tells.same a b h.0 n.0.0 o) (both (atom-dec ν c a)))
      go Ordering.gt o r = rw (o, mergeOneE) (second (after law a b o) r (atom-dec ν c b))

  merge-powers : (c : Atom N) (p q : Product N) → Sorted ν p → Every (Sound Held) p → Sorted ν q → Every (Sound Held) q
      → powerOf ν c (mergeE ν p q) ≡ plus (powerOf ν c p) (powerOf ν c q)
  unfolding powerOf mergeE
  merge-powers c [] q h i j k = sym (nought-plus (powerOf ν c q) (power-lowest ν Held c q k))
  merge-powers c (a ↑ e ∷ p) q h i j k =
      one_power c a e p (mergeE ν p) i.0 h.0 i.1 (λ r x y. merge-powers c p r h.1 i.1 x y)
      (λ r x y. ((merge-sorted ν law exact p r h.1 x).holds (mergeE ν p r) (merge-exact ν p r)).1 a h.0 y) q j k

  -- exponents add, atom by atom
  pub merge-power : (c : Atom N) (p q : Product N) → Proper ν Held p → Proper ν Held q → powerOf ν c (mergeE ν p q) ≡ plus (powerOf ν c p) (powerOf ν c q)
  merge-power c p q h k = merge-powers c p q h.in_order h.each k.in_order k.each

  raise-powers : (c : Atom N) (p : Product N) (k : Exp) → Sorted ν p → Every (Sound Held) p → Lowest k → powerOf ν c (raiseE p k) ≡ mul (powerOf ν c p) k
  unfolding powerOf raiseE
  raise-powers c [] k h i l = sym (nought-mul k l)
  raise-powers c (a ↑ e ∷ p) k h i l =
      put-power c a (mul e k) (raiseE p k) (((raise-behind ν law exact p k h.1).holds (raiseE p k) (raise-exact ν p k)).1 a h.0) (mul-in-lowest e k i.0.1 l)
      ∙ go (atom-dec ν c a) (raise-powers c p k h.1 i.1 l)
    where
      go : (x : Dec (c ≡ a)) → powerOf ν c (raiseE p k) ≡ mul (powerOf ν c p) k → pick x (mul e k) (powerOf ν c (raiseE p k)) ≡ mul (pick x e (powerOf ν c p)) k
      go (yes t) r = refl
      go (no t) r = r

  -- raising multiplies each exponent
  pub raise-power : (c : Atom N) (p : Product N) (k : Exp) → Proper ν Held p → Lowest k → powerOf ν c (raiseE p k) ≡ mul (powerOf ν c p) k
  raise-power c p k h l = raise-powers c p k h.in_order h.each l

  pub inverse-power : (c : Atom N) (p : Product N) → powerOf ν c (inverse p) ≡ neg (powerOf ν c p)
  unfolding powerOf inverse neg
  inverse-power c [] = refl
  inverse-power c (a ↑ e ∷ p) = go (atom-dec ν c a) (inverse-power c p)
    where
      go : (x : Dec (c ≡ a)) → powerOf ν c (inverse p) ≡ neg (powerOf ν c p) → pick x (neg e) (powerOf ν c (inverse p)) ≡ neg (pick x e (powerOf ν c p))
      go (yes t) r = refl
      go (no t) r = r

  -- ══ A product is its powers ══

  -- a power that isn't 0 is not the exponent zero
  some-power : (e : Exp) → isZero e ≡ false → ¬ (e ≡ nought)
  some-power e h i = let j : true ≡ false = sym (ap isZero i) ∙ h in cc

  determined : (p q : Product N) → Sorted ν p → Every (Sound Held) p → Sorted ν q → Every (Sound Held) q
      → ((c : Atom N) → powerOf ν c p ≡ powerOf ν c q) → p ≡ q
  unfolding powerOf
  determined [] [] h i j k f = refl
  determined [] (b ↑ d ∷ q) h i j k f = absurd (some-power d k.0.2 (sym (power-here ν b d q) ∙ sym (f b)))
  determined (a ↑ e ∷ p) [] h i j k f = absurd (some-power e i.0.2 (sym (power-here ν a e p) ∙ f a))
  determined (a ↑ e ∷ p) (b ↑ d ∷ q) h i j k f = go (orderAtom ν a b) refl (determined p q h.1 i.1 j.1 k.1)
    where
      tails : a ≡ b → (c : Atom N) → Dec (c ≡ a) → powerOf ν c p ≡ powerOf ν c q
      tails t c (yes x) =
          rw (x, absent a p h.0) (sym (absent a q (rw t j.0)))
      tails t c (no x) = sym (power-there ν c a e p x) ∙ f c ∙ power-there ν c b d q (λ y. x (y ∙ sym t))

      go : (o : Ordering) → orderAtom ν a b ≡ o → (((c : Atom N) → powerOf ν c p ≡ powerOf ν c q) → p ≡ q) → a ↑ e ∷ p ≡ b ↑ d ∷ q
      go Ordering.lt o r = absurd (some-power e i.0.2 (sym (power-here ν a e p) ∙ f a ∙ absent a (b ↑ d ∷ q) (o, sooner ν law a b q o j.0)))
      go Ordering.eq o r =
          let t : a ≡ b = tells.same a b i.0.0 k.0.0 o in
          let same_power : e ≡ d = sym (power-here ν a e p) ∙ f a ∙ ap (λ (x : Atom N). powerOf ν x (b ↑ d ∷ q)) t ∙ power-here ν b d q in
          let rest : p ≡ q = r (λ c. tails t c (atom-dec ν c a)) in
          cc
      go Ordering.gt o r =
          let w = after law a b o in
          absurd (some-power d k.0.2 (sym (power-here ν b d q) ∙ sym (f b) ∙ absent b (a ↑ e ∷ p) (w, sooner ν law b a p w h.0)))

  -- two products with the same power of each atom are the same
  pub by-powers : (p q : Product N) → Proper ν Held p → Proper ν Held q → ((c : Atom N) → powerOf ν c p ≡ powerOf ν c q) → p ≡ q
  by-powers p q h k f = determined p q h.in_order h.each k.in_order k.each f

  -- ══ Products are a commutative group, and exponents act on it ══

  pub scalar-proper : Proper ν Held []
  scalar-proper = record { in_order = tt; each = tt }

  module _ (p q r : Product N) (hp : Proper ν Held p) (hq : Proper ν Held q) (hr : Proper ν Held r) where
    pub merge-assoc : mergeE ν (mergeE ν p q) r ≡ mergeE ν p (mergeE ν q r)
    merge-assoc =
        let pq = merge-proper p q hp hq in
        let qr = merge-proper q r hq hr in
        by-powers _ _ (merge-proper _ r pq hr) (merge-proper p _ hp qr) (λ c.
        merge-power c (mergeE ν p q) r pq hr
        ∙ ap (λ (x : Exp). plus x (powerOf ν c r)) (merge-power c p q hp hq)
        ∙ plus_assoc (powerOf ν c p) (powerOf ν c q) (powerOf ν c r) (low c p hp) (low c q hq) (low c r hr)
        ∙ ap (plus (powerOf ν c p)) (sym (merge-power c q r hq hr))
        ∙ sym (merge-power c p (mergeE ν q r) hp qr))

  module _ (p q : Product N) (hp : Proper ν Held p) (hq : Proper ν Held q) where
    pub merge-comm : mergeE ν p q ≡ mergeE ν q p
    merge-comm =
        by-powers _ _ (merge-proper p q hp hq) (merge-proper q p hq hp) (λ c.
        merge-power c p q hp hq ∙ plus_comm (powerOf ν c p) (powerOf ν c q) ∙ sym (merge-power c q p hq hp))

    -- the power of a product
    pub raise-merge : (k : Exp) → Lowest k → raiseE (mergeE ν p q) k ≡ mergeE ν (raiseE p k) (raiseE q k)
    raise-merge k l =
        let pq = merge-proper p q hp hq in
        let pk = raise-proper p k hp l in
        let qk = raise-proper q k hq l in
        by-powers _ _ (raise-proper _ k pq l) (merge-proper _ _ pk qk) (λ c.
        raise-power c (mergeE ν p q) k pq l
        ∙ ap (λ (x : Exp). mul x k) (merge-power c p q hp hq)
        ∙ plus-mul (powerOf ν c p) (powerOf ν c q) k (low c p hp) (low c q hq) l
        ∙ sym (ap₂ plus (raise-power c p k hp l) (raise-power c q k hq l))
        ∙ sym (merge-power c (raiseE p k) (raiseE q k) pk qk))

  module _ (p : Product N) (hp : Proper ν Held p) where
    pub merge-inverse : mergeE ν p (inverse p) ≡ []
    unfolding powerOf
    merge-inverse =
        let i = inverse-proper p hp in
        by-powers _ _ (merge-proper p (inverse p) hp i) scalar-proper (λ c.
        merge-power c p (inverse p) hp i ∙ ap (plus (powerOf ν c p)) (inverse-power c p) ∙ plus-neg (powerOf ν c p) (low c p hp))

    pub raise-one : raiseE p one ≡ p
    raise-one =
        by-powers _ _ (raise-proper p one hp one-lowest) hp (λ c.
        raise-power c p one hp one-lowest ∙ mul-one' (powerOf ν c p) (low c p hp))

    pub raise-nought : raiseE p nought ≡ []
    unfolding powerOf
    raise-nought =
        by-powers _ _ (raise-proper p nought hp nought-lowest) scalar-proper (λ c.
        raise-power c p nought hp nought-lowest ∙ mul-nought (powerOf ν c p) (low c p hp))

    module _ (j k : Exp) (lj : Lowest j) (lk : Lowest k) where
      pub raise-plus : raiseE p (plus j k) ≡ mergeE ν (raiseE p j) (raiseE p k)
      raise-plus =
          let pj = raise-proper p j hp lj in
          let pk = raise-proper p k hp lk in
          let l = plus-in-lowest j k lj lk in
          by-powers _ _ (raise-proper p (plus j k) hp l) (merge-proper _ _ pj pk) (λ c.
          raise-power c p (plus j k) hp l
          ∙ mul-plus (powerOf ν c p) j k (low c p hp) lj lk
          ∙ sym (ap₂ plus (raise-power c p j hp lj) (raise-power c p k hp lk))
          ∙ sym (merge-power c (raiseE p j) (raiseE p k) pj pk))

      pub raise-mul : raiseE p (mul j k) ≡ raiseE (raiseE p j) k
      raise-mul =
          let pj = raise-proper p j hp lj in
          let l = mul-in-lowest j k lj lk in
          by-powers _ _ (raise-proper p (mul j k) hp l) (raise-proper _ k pj lk) (λ c.
          raise-power c p (mul j k) hp l
          ∙ sym (mul-assoc' (powerOf ν c p) j k (low c p hp) lj lk)
          ∙ ap (λ (x : Exp). mul x k) (sym (raise-power c p j hp lj))
          ∙ sym (raise-power c (raiseE p j) k pj lk))

    pub raise-neg : (k : Exp) → Lowest k → raiseE p (neg k) ≡ inverse (raiseE p k)
    raise-neg k l =
        let n = neg-lowest k l in
        let pk = raise-proper p k hp l in
        by-powers _ _ (raise-proper p (neg k) hp n) (inverse-proper _ pk) (λ c.
        raise-power c p (neg k) hp n
        ∙ mul-neg (powerOf ν c p) k
        ∙ ap neg (sym (raise-power c p k hp l))
        ∙ sym (inverse-power c (raiseE p k)))

    -- the inverse is the power -1
    pub inverse-is : inverse p ≡ raiseE p (neg one)
    inverse-is = ap inverse (sym raise-one) ∙ sym (raise-neg one one-lowest)

  pub inverse-merge : (p q : Product N) → Proper ν Held p → Proper ν Held q → inverse (mergeE ν p q) ≡ mergeE ν (inverse p) (inverse q)
  inverse-merge p q hp hq =
      inverse-is (mergeE ν p q) (merge-proper p q hp hq)
      ∙ raise-merge p q hp hq (neg one) (neg-lowest one one-lowest)
      ∙ sym (ap₂ (mergeE ν) (inverse-is p hp) (inverse-is q hq))

module _ {N : Type 0} where
  pub inverse-inverse : (p : Product N) → inverse (inverse p) ≡ p
  unfolding inverse
  inverse-inverse [] = refl
  inverse-inverse (a ↑ e ∷ p) = ap₂ (λ (x : Exp) (q : Product N). a ↑ x ∷ q) (neg-neg e) (inverse-inverse p)
