-- What follows from the definitions of specs/Sorted: merging, raising and inverting keep products in order, and keep what holds of each factor.
use Rattle.std.specs.Prelude.{◌≡◌, Bool, true, false}
use Rattle.std.proofs.Math.Path.{refl}
use Rattle.std.proofs.Common.{sym, ◌∙◌}
use mathlib.Core.List.{[], ◌∷◌, map}
use Prim.Native.Nat.{Ordering}
use Rattle.rules.specs.Base.{Got, got, Limits}
use Rattle.rules.specs.Exponents.{Exp, isZero, neg, sum, times}
use Rattle.rules.specs.Trees.{Atom, Factor, ◌↑◌, Product, Names, orderAtom}
use Rattle.rules.specs.Products.{put, inverse, mergeOne, merge, raise}
use Rattle.rules.specs.WellFormed.{is_lt, rising, atomOf}
use Rattle.laws.specs.Lists.{and_left, and_right, Every}
use Rattle.laws.proofs.Lists.{true≢false, every-as}
use Rattle.laws.specs.Order.{Lawful}
use Rattle.laws.proofs.Order.{after}
use Rattle.laws.proofs.Value.{Gives, gives, next, weaken, its_own}
use Rattle.laws.specs.Sorted.{Before, Sorted}

lt : (o : Ordering) → is_lt o ≡ true → o ≡ Ordering.lt
lt Ordering.lt t = refl
lt Ordering.eq t = absurd (true≢false (sym t))
lt Ordering.gt t = absurd (true≢false (sym t))

module _ {N : Type 0} (ν : Names N) where
  pub merge-nil : (l : Limits) (p : Product N) → merge ν l p [] ≡ got p
  unfolding merge mergeOne
  merge-nil l [] = refl
  merge-nil l (a ↑ e ∷ p) = refl

module _ {N : Type 0} (ν : Names N) (law : Lawful (orderAtom ν)) where
  pub sooner : (a b : Atom N) (p : Product N) → orderAtom ν a b ≡ Ordering.lt → Before ν b p → Before ν a p
  sooner a b p h k = every-as (λ f. law.trans a b (atomOf f) h) p k

  pub beside : (a b : Atom N) (p : Product N) → orderAtom ν a b ≡ Ordering.eq → Before ν b p → Before ν a p
  beside a b p h k = every-as (λ f i. law.alike a b (atomOf f) h ∙ i) p k

  -- the test of the records, as a fact
  pub sorted : (p : Product N) → rising (orderAtom ν) (map atomOf p) ≡ true → Sorted ν p
  unfolding rising
  sorted [] t = tt
  sorted (a ↑ e ∷ []) t = (tt, tt)
  sorted (a ↑ e ∷ b ↑ d ∷ p) t =
      let h : orderAtom ν a b ≡ Ordering.lt = lt (orderAtom ν a b) (and_left (is_lt (orderAtom ν a b)) _ t) in
      let s = sorted (b ↑ d ∷ p) (and_right (is_lt (orderAtom ν a b)) _ t) in
      ((h, sooner a b p h s.0), s)

  pub sorted_rises : (p : Product N) → Sorted ν p → rising (orderAtom ν) (map atomOf p) ≡ true
  unfolding rising
  sorted_rises [] s = refl
  sorted_rises (a ↑ e ∷ []) s = refl
  sorted_rises (a ↑ e ∷ b ↑ d ∷ p) s = rw s.0.0 (sorted_rises (b ↑ d ∷ p) s.1)

  -- a product in order, behind each atom that stands before p and q
  abbrev Joined : Product N → Product N → Product N → Type 0
  Joined p q r = Sorted ν r × ((c : Atom N) → Before ν c p → Before ν c q → Before ν c r)

  put-sorted : (a : Atom N) (e : Exp) (r : Product N) → Before ν a r → Sorted ν r → Sorted ν (put a e r)
      × ((c : Atom N) → orderAtom ν c a ≡ Ordering.lt → Before ν c r → Before ν c (put a e r))
  put-sorted a e r h k = go (isZero e) refl
    where
      go : (b : Bool) → isZero e ≡ b → Sorted ν (put a e r) × ((c : Atom N) → orderAtom ν c a ≡ Ordering.lt → Before ν c r → Before ν c (put a e r))
      go true q = rw (q, put) (k, λ c i j. j)
      go false q = rw (q, put) ((h, k), λ c i j. (i, j))

  module _ (l : Limits) where
    one-sorted : (a : Atom N) (e : Exp) (p : Product N) (m : Product N → Got (Product N)) → Before ν a p → Sorted ν p
        → ((q : Product N) → Sorted ν q → Gives (m q) (Joined p q)) → (q : Product N) → Sorted ν q
        → Gives (mergeOne ν l a e p m q) (Joined (a ↑ e ∷ p) q)
    unfolding mergeOne
    one-sorted a e p m h i f [] k = gives ((h, i), λ c j n. j)
    one-sorted a e p m h i f (b ↑ d ∷ q) k = go (orderAtom ν a b) refl (one-sorted a e p m h i f q k.1)
      where
        go : (o : Ordering) → orderAtom ν a b ≡ o → Gives (mergeOne ν l a e p m q) (Joined (a ↑ e ∷ p) q)
            → Gives (mergeOne ν l a e p m (b ↑ d ∷ q)) (Joined (a ↑ e ∷ p) (b ↑ d ∷ q))
        go Ordering.lt j r =
            rw (j, mergeOne) (next (f (b ↑ d ∷ q) k) (λ s g.
            gives ((g.1 a h (j, sooner a b q j k.0), g.0), λ c x y. (x.0, g.1 c x.1 y))))
        go Ordering.eq j r =
            let aq : Before ν a q = beside a b q j k.0 in
            rw (j, mergeOne) (next (its_own (sum l e d)) (λ s u. next (f q k.1) (λ t g.
            let w = put-sorted a s t (g.1 a h aq) g.0 in
            gives (w.0, λ c x y. w.1 c x.0 (g.1 c x.1 y.1)))))
        go Ordering.gt j r =
            let w : orderAtom ν b a ≡ Ordering.lt = after law a b j in
            rw (j, mergeOne) (next r (λ s g.
            gives ((g.1 b (w, sooner b a p w h) k.0, g.0), λ c x y. (y.0, g.1 c x y.1))))

    pub merge-sorted : (p q : Product N) → Sorted ν p → Sorted ν q → Gives (merge ν l p q) (Joined p q)
    unfolding merge
    merge-sorted [] q h k = gives (k, λ c x y. y)
    merge-sorted (a ↑ e ∷ p) q h k = one-sorted a e p _ h.0 h.1 (λ q i. merge-sorted p q h.1 i) q k

    -- raising drops some factors and keeps the order of the others
    pub raise-behind : (p : Product N) (k : Exp) → Sorted ν p → Gives (raise ν l p k) (λ r. Sorted ν r × ((c : Atom N) → Before ν c p → Before ν c r))
    unfolding raise
    raise-behind [] k h = gives (tt, λ c x. x)
    raise-behind (a ↑ e ∷ p) k h =
        next (its_own (times l e k)) (λ s u. next (raise-behind p k h.1) (λ r g.
        let w = put-sorted a s r (g.1 a h.0) g.0 in
        gives (w.0, λ c x. w.1 c x.0 (g.1 c x.1))))

    pub raise-sorted : (p : Product N) (k : Exp) → Sorted ν p → Gives (raise ν l p k) (Sorted ν)
    raise-sorted p k h = weaken (raise-behind p k h) (λ r g. g.0)

  inverse-behind : (c : Atom N) (p : Product N) → Before ν c p → Before ν c (inverse p)
  unfolding inverse
  inverse-behind c [] h = tt
  inverse-behind c (a ↑ e ∷ p) h = (h.0, inverse-behind c p h.1)

  pub inverse-sorted : (p : Product N) → Sorted ν p → Sorted ν (inverse p)
  unfolding inverse
  inverse-sorted [] h = tt
  inverse-sorted (a ↑ e ∷ p) h = (inverse-behind a p h.0, inverse-sorted p h.1)

-- ══ What holds of each factor ══

module _ {N : Type 0} (P : Factor N → Type 0) where
  put-each : (a : Atom N) (e : Exp) (r : Product N) → (isZero e ≡ false → P (a ↑ e)) → Every P r → Every P (put a e r)
  put-each a e r h k = go (isZero e) refl
    where
      go : (b : Bool) → isZero e ≡ b → Every P (put a e r)
      go true q = rw (q, put) k
      go false q = rw (q, put) (h q, k)

  pub inverse-each : ((a : Atom N) (e : Exp) → P (a ↑ e) → P (a ↑ neg e)) → (p : Product N) → Every P p → Every P (inverse p)
  unfolding inverse
  inverse-each f [] h = tt
  inverse-each f (a ↑ e ∷ p) h = (f a e h.0, inverse-each f p h.1)

  module _ (ν : Names N) (l : Limits) where
    -- merging keeps what sums of exponents keep
    module _ (adds : (a b : Atom N) (e d s : Exp) → P (a ↑ e) → P (b ↑ d) → sum l e d ≡ got s → isZero s ≡ false → P (a ↑ s)) where
      one_each : (a : Atom N) (e : Exp) (p : Product N) (m : Product N → Got (Product N)) → P (a ↑ e) → Every P p
          → ((q : Product N) → Every P q → Gives (m q) (Every P)) → (q : Product N) → Every P q → Gives (mergeOne ν l a e p m q) (Every P)
      unfolding mergeOne
      one_each a e p m h i f [] k = gives (h, i)
      one_each a e p m h i f (b ↑ d ∷ q) k = go (orderAtom ν a b) refl (one_each a e p m h i f q k.1)
        where
          go : (o : Ordering) → orderAtom ν a b ≡ o → Gives (mergeOne ν l a e p m q) (Every P) → Gives (mergeOne ν l a e p m (b ↑ d ∷ q)) (Every P)
          go Ordering.lt j r = rw (j, mergeOne) (next (f (b ↑ d ∷ q) k) (λ s g. gives (h, g)))
          go Ordering.eq j r = rw (j, mergeOne) (next (its_own (sum l e d)) (λ s u. next (f q k.1) (λ t g. gives (put-each a s t (adds a b e d s h k.0 u) g))))
          go Ordering.gt j r = rw (j, mergeOne) (next r (λ s g. gives (k.0, g)))

      pub merge-each : (p q : Product N) → Every P p → Every P q → Gives (merge ν l p q) (Every P)
      unfolding merge
      merge-each [] q h k = gives k
      merge-each (a ↑ e ∷ p) q h k = one_each a e p _ h.0 h.1 (λ q i. merge-each p q h.1 i) q k

    -- raising keeps what products of exponents keep
    pub raise-each : (k : Exp) → ((a : Atom N) (e s : Exp) → P (a ↑ e) → times l e k ≡ got s → isZero s ≡ false → P (a ↑ s)) → (p : Product N)
        → Every P p → Gives (raise ν l p k) (Every P)
    unfolding raise
    raise-each k f [] h = gives tt
    raise-each k f (a ↑ e ∷ p) h = next (its_own (times l e k)) (λ s u. next (raise-each k f p h.1) (λ r g. gives (put-each a s r (f a e s h.0 u) g)))
