-- What follows from the definitions of specs/GoodProducts: well formed products: what the test says, and that the bounded steps give well formed products
-- again.
use Rattle.std.specs.Prelude.{◌≡◌, Bool, leb}
use Rattle.std.proofs.Math.Path.{refl, ap}
use Rattle.std.proofs.Common.{◌∙◌, arith}
use Rattle.std.proofs.Math.Bool.{true, false, and-eq-true_iff}
use mathlib.Core.List.{[], ◌∷◌}
use Prim.Native.Nat.{Ordering}
use Prim.Native.Nat.{ℕ, suc, ◌≤◌}
use borrow.Author.Tests.{eqb-true, leb-true, le-leb}
use Rattle.std.proofs.Math.Dec.{compare_is_eq}
use Rattle.std.proofs.Math.ListN.{length}
use Rattle.rules.specs.Base.{got, bounded, within, all}
use Rattle.rules.specs.Exponents.{Exp, isZero, neg, goodExp, goodStored, sum, times}
use Rattle.rules.specs.Trees.{Open, var, quant, par, Atom, free, base, Factor, ◌↑◌, Product, Names, orderOpen, orderAtom}
use Rattle.rules.specs.Products.{put, inverse, multiply, divide, raise}
use Rattle.rules.specs.WellFormed.{goodOpen, goodFactor, goodProduct}
use Rattle.laws.specs.Lists.{Every, all-every, all-is}
use Rattle.laws.proofs.Lists.{every-all, every-as, is_all}
use Rattle.laws.specs.Order.{Lawful, Tells}
use Rattle.laws.proofs.Value.{Gives, gives, next, weaken, together, its_own, allowed}
use Rattle.laws.proofs.Ranges.{good-lowest, stored-good, stored-not-zero, is-stored, neg-good, sum-good, times-good}
use Rattle.laws.specs.Sorted.{Sorted}
use Rattle.laws.proofs.Sorted.{sorted, sorted_rises, merge-sorted, raise-sorted, inverse-sorted, merge-each, raise-each, inverse-each}
use Rattle.laws.proofs.Fractions.{neg-zero}
use Rattle.laws.specs.Powers.{Sound, Proper}
use Rattle.laws.specs.GoodProducts.{goodAtom}

module _ {N : Type 0} (ν : Names N) (held : N → Bool) (q : ℕ) where
  abbrev pub GoodFactor : Factor N → Type 0
  GoodFactor (a ↑ e) = (goodAtom ν held q a ≡ true) × (goodStored e ≡ true)

  -- what the test of a product asks
  pub record GoodProduct (p : Product N) : Type 0 where
    pub in_order : Sorted ν p
    pub each : Every GoodFactor p
    pub few : length p ≤ 64

  factor-good : (f : Factor N) → goodFactor ν held q f ≡ true → GoodFactor f
  unfolding goodFactor
  factor-good (free o ↑ e) h = (and-eq-true_iff (goodOpen ν held q o) (goodStored e)).0 h
  factor-good (base n ↑ e) h = (and-eq-true_iff (held n) (goodStored e)).0 h

  good-factor : (f : Factor N) → GoodFactor f → goodFactor ν held q f ≡ true
  unfolding goodFactor
  good-factor (free o ↑ e) h = (and-eq-true_iff (goodOpen ν held q o) (goodStored e)).1 h
  good-factor (base n ↑ e) h = (and-eq-true_iff (held n) (goodStored e)).1 h

  all-good : (p : Product N) → all (goodFactor ν held q) p ≡ true → Every GoodFactor p
  all-good p h = all-every GoodFactor p (λ f m. factor-good f (all-is (goodFactor ν held q) p h f m))

  good-all : (p : Product N) → Every GoodFactor p → all (goodFactor ν held q) p ≡ true
  good-all p h = is_all (goodFactor ν held q) p (λ f m. good-factor f (every-all GoodFactor p h f m))

  -- the order tells atoms apart where it tells names apart
  module _ (t : Tells (λ n. held n ≡ true) ν.order) where
    open-same : (a b : Open N) → goodOpen ν held q a ≡ true → goodOpen ν held q b ≡ true → orderOpen ν a b ≡ Ordering.eq → a ≡ b
    unfolding goodOpen orderOpen
    open-same (var a) (var b) h k e = ap var (t.same a b h k e)
    open-same (var a) (quant j) h k e = cc
    open-same (var a) (par b) h k e = cc
    open-same (quant i) (var b) h k e = cc
    open-same (quant i) (quant j) h k e = ap quant (eqb-true i j (ap compare_is_eq e))
    open-same (quant i) (par b) h k e = cc
    open-same (par a) (var b) h k e = cc
    open-same (par a) (quant j) h k e = cc
    open-same (par a) (par b) h k e = ap par (t.same a b h k e)

    atom-same : (a b : Atom N) → goodAtom ν held q a ≡ true → goodAtom ν held q b ≡ true → orderAtom ν a b ≡ Ordering.eq → a ≡ b
    unfolding orderAtom
    atom-same (free a) (free b) h k e = ap free (open-same a b h k e)
    atom-same (free a) (base n) h k e = cc
    atom-same (base m) (free b) h k e = cc
    atom-same (base m) (base n) h k e = ap base (t.same m n h k e)

    pub atom-tells : Tells (λ a. goodAtom ν held q a ≡ true) (orderAtom ν)
    atom-tells = record { same = atom-same }

module _ {N : Type 0} (ν : Names N) (law : Lawful (orderAtom ν)) (held : N → Bool) (q : ℕ) where
  pub good-product : (p : Product N) → goodProduct ν held q p ≡ true → GoodProduct ν held q p
  unfolding goodProduct
  good-product p h =
      let r = (and-eq-true_iff _ (leb (length p) 64)).0 h in
      let s = (and-eq-true_iff (all (goodFactor ν held q) p) _).0 r.0 in
      record { in_order = sorted ν law p s.1; each = all-good ν held q p s.0; few = leb-true (length p) 64 r.1 }

  pub product-good : (p : Product N) → GoodProduct ν held q p → goodProduct ν held q p ≡ true
  unfolding goodProduct
  product-good p g =
      simp (good-all ν held q p g.each, sorted_rises ν law p g.in_order, le-leb _ _ g.few)

  -- a well formed product is one of exact arithmetic
  pub good-proper : (p : Product N) → goodProduct ν held q p ≡ true → Proper ν (λ a. goodAtom ν held q a ≡ true) p
  good-proper p h = let g = good-product p h in record { in_order = g.in_order; each = every-as factor-sound p g.each }
    where
      factor-sound : (f : Factor N) → GoodFactor ν held q f → Sound (λ a. goodAtom ν held q a ≡ true) f
      factor-sound (a ↑ e) i = (i.0, good-lowest e (stored-good e i.1), stored-not-zero e i.1)

  -- ══ The bounded steps ══

  adds : (a b : Atom N) (e d s : Exp) → GoodFactor ν held q (a ↑ e) → GoodFactor ν held q (b ↑ d) → sum bounded e d ≡ got s → isZero s ≡ false
      → GoodFactor ν held q (a ↑ s)
  adds a b e d s h k i z = (h.0, is-stored s z ((sum-good e d (stored-good e h.1) (stored-good d k.1)).holds s i))

  few-left : (r : Product N) → Gives (within bounded (length r) 64 r) (λ s. (s ≡ r) × (length r ≤ 64))
  few-left r = allowed (leb (length r) 64) 8 r (λ e. (refl, leb-true (length r) 64 e))

  multiply-facts : (p r : Product N) → GoodProduct ν held q p → GoodProduct ν held q r → Gives (multiply ν bounded p r) (GoodProduct ν held q)
  unfolding multiply
  multiply-facts p r g h =
      next (together (merge-sorted ν law bounded p r g.in_order h.in_order) (merge-each (GoodFactor ν held q) ν bounded adds p r g.each h.each)) (λ s i.
      weaken (few-left s) (λ t j. rw j.0 (record { in_order = i.0.0; each = i.1; few = j.1 })))

  pub multiply_good : (p r : Product N) → goodProduct ν held q p ≡ true → goodProduct ν held q r ≡ true
      → Gives (multiply ν bounded p r) (λ s. goodProduct ν held q s ≡ true)
  multiply_good p r h k = weaken (multiply-facts p r (good-product p h) (good-product r k)) product-good

  inverse-length : (p : Product N) → length (inverse p) ≡ length p
  unfolding inverse
  inverse-length [] = refl
  inverse-length (a ↑ e ∷ p) = ap suc (inverse-length p)

  pub inverse-good : (p : Product N) → goodProduct ν held q p ≡ true → goodProduct ν held q (inverse p) ≡ true
  inverse-good p h =
      let g = good-product p h in
      product-good (inverse p) (record {
        in_order = inverse-sorted ν law p g.in_order;
        each = inverse-each (GoodFactor ν held q)
            (λ a e i. (i.0, is-stored (neg e) (neg-zero e ∙ stored-not-zero e i.1) (neg-good e (stored-good e i.1)))) p g.each;
        few = rw (inverse-length p) g.few;
      })

  pub divide-good : (p r : Product N) → goodProduct ν held q p ≡ true → goodProduct ν held q r ≡ true
      → Gives (divide ν bounded p r) (λ s. goodProduct ν held q s ≡ true)
  unfolding divide
  divide-good p r h k = multiply_good p (inverse r) h (inverse-good r k)

  raise-length : (p : Product N) (k : Exp) → Gives (raise ν bounded p k) (λ r. length r ≤ length p)
  unfolding raise
  raise-length [] k = gives (omega arith)
  raise-length (a ↑ e ∷ p) k = next (its_own (times bounded e k)) (λ s u. next (raise-length p k) (λ r i. gives (put-length s r i)))
    where
      put-length : (s : Exp) (r : Product N) → length r ≤ length p → length (put a s r) ≤ suc (length p)
      put-length s r i = go (isZero s) refl
        where
          go : (b : Bool) → isZero s ≡ b → length (put a s r) ≤ suc (length p)
          go true z = rw (z, put) (omega arith)
          go false z = rw (z, put) (omega arith)

  pub raise-good : (p : Product N) (k : Exp) → goodProduct ν held q p ≡ true → goodExp k ≡ true
      → Gives (raise ν bounded p k) (λ s. goodProduct ν held q s ≡ true)
  raise-good p k h l = record {
    holds = λ s e. product-good s (record {
      in_order = (raise-sorted ν law bounded p k g.in_order).holds s e;
      each = (raise-each (GoodFactor ν held q) ν bounded k scales p g.each).holds s e;
      few = let n = (raise-length p k).holds s e in omega (arith, g.few);
    });
  }
    where
      g : GoodProduct ν held q p
      g = good-product p h

      scales : (a : Atom N) (e s : Exp) → GoodFactor ν held q (a ↑ e) → times bounded e k ≡ got s → isZero s ≡ false → GoodFactor ν held q (a ↑ s)
      scales a e s i j z = (i.0, is-stored s z ((times-good e k (stored-good e i.1) l).holds s j))
