-- What a product is worth, where each atom is worth a fraction: a linear map. Replacing by a binding that keeps the worth keeps it.
use Rattle.std.specs.Prelude.{◌≡◌, Bool}
use Rattle.std.proofs.Math.Path.{refl, ap₂, sym}
use Rattle.std.proofs.Common.{ap, ◌∙◌}
use Rattle.std.proofs.Math.Bool.{true, false}
use mathlib.Core.List.{[], ◌∷◌}
use Prim.Native.Nat.{Ordering}
use Rattle.rules.specs.Exponents.{Exp, nought, one, isZero, neg, plus, mul}
use Rattle.rules.specs.Trees.{Atom, ◌↑◌, Product, Names, orderAtom}
use Rattle.rules.specs.Products.{put, inverse}
use Rattle.laws.specs.Order.{Lawful, Tells}
use Rattle.laws.specs.Lists.{Every}
use Rattle.laws.specs.Fractions.{Lowest}
use Rattle.laws.proofs.Fractions.{
  nought-lowest,
  one-lowest,
  neg-lowest,
  plus-in-lowest,
  mul-in-lowest,
  plus_comm,
  plus_assoc,
  plus-nought,
  plus-neg,
  mul-assoc',
  mul-plus,
  mul-one',
  zero-is-nought,
  mul-nought,
  nought-mul,
  nought-plus,
  plus-mul,
  mul-neg,
}
use Rattle.laws.specs.ExactProducts.{mergeE, mergeOneE, raiseE}
use Rattle.laws.specs.Powers.{Sound, Proper}
use Rattle.laws.proofs.Powers.{inverse-is}

-- ══ Fractions ══

module _ (a b c : Exp) (p : Lowest a) (q : Lowest b) (r : Lowest c) where
  swap : plus b (plus a c) ≡ plus a (plus b c)
  swap = sym (plus_assoc b a c q p r) ∙ ap (λ (x : Exp). plus x c) (plus_comm b a) ∙ plus_assoc a b c p q r

  exchange : (d : Exp) → Lowest d → plus (plus a b) (plus c d) ≡ plus (plus a c) (plus b d)
  exchange d s =
      plus_assoc a b (plus c d) p q (plus-in-lowest c d r s)
      ∙ ap (plus a) (sym (plus_assoc b c d q r s) ∙ ap (λ (x : Exp). plus x d) (plus_comm b c) ∙ plus_assoc c b d r q s)
      ∙ sym (plus_assoc a c (plus b d) p r (plus-in-lowest b d q s))

module _ (a b : Exp) (p : Lowest a) (q : Lowest b) where
  -- a difference is 0 where both are the same, and there alone
  pub same-difference : a ≡ b → plus a (neg b) ≡ nought
  same-difference e = ap (λ (x : Exp). plus x (neg b)) e ∙ plus-neg b q

  pub no_difference : plus a (neg b) ≡ nought → a ≡ b
  no_difference e =
      sym (plus-nought a p)
      ∙ ap (plus a) (sym (plus_comm (neg b) b ∙ plus-neg b q))
      ∙ sym (plus_assoc a (neg b) b p (neg-lowest b q) q)
      ∙ ap (λ (x : Exp). plus x b) e
      ∙ nought-plus b q

-- ══ Worth ══

module _ {N : Type 0} where
  unfoldable pub worth : (Atom N → Exp) → Product N → Exp
  worth g [] = nought
  worth g (a ↑ e ∷ p) = plus (mul (g a) e) (worth g p)

module _ {N : Type 0} (ν : Names N) {Held : Atom N → Type 0} (law : Lawful (orderAtom ν)) (tells : Tells Held (orderAtom ν)) (g : Atom N → Exp)
    (low : (a : Atom N) → Lowest (g a)) where
  pub worth-lowest : (p : Product N) → Every (Sound Held) p → Lowest (worth g p)
  unfolding worth
  worth-lowest [] h = nought-lowest
  worth-lowest (a ↑ e ∷ p) h = plus-in-lowest (mul (g a) e) (worth g p) (mul-in-lowest (g a) e (low a) h.0.1) (worth-lowest p h.1)

  worth-put : (a : Atom N) (s : Exp) (r : Product N) → Lowest s → Lowest (worth g r) → worth g (put a s r) ≡ plus (mul (g a) s) (worth g r)
  unfolding worth
  worth-put a s r h k = go (isZero s) refl
    where
      go : (b : Bool) → isZero s ≡ b → worth g (put a s r) ≡ plus (mul (g a) s) (worth g r)
      go true z = rw (z, put) (sym (ap (λ (x : Exp). plus x (worth g r)) (ap (mul (g a)) (zero-is-nought s h z) ∙ mul-nought (g a) (low a))
          ∙ nought-plus (worth g r) k))
      go false z = rw (z, put)

  worth-one : (a : Atom N) (e : Exp) (p : Product N) (m : Product N → Product N) → Sound Held (a ↑ e) → Every (Sound Held) p
      → ((q : Product N) → Every (Sound Held) q → worth g (m q) ≡ plus (worth g p) (worth g q))
      → (q : Product N) → Every (Sound Held) q → worth g (mergeOneE ν a e p m q) ≡ plus (worth g (a ↑ e ∷ p)) (worth g q)
  unfolding worth mergeOneE
  worth-one a e p m h i f [] k = sym (plus-nought (worth g (a ↑ e ∷ p)) (worth-lowest (a ↑ e ∷ p) (h, i)))
  worth-one a e p m h i f (b ↑ d ∷ q) k = go (orderAtom ν a b) refl (worth-one a e p m h i f q k.1)
    where
      A : Exp
      A = mul (g a) e

      D : Exp
      D = mul (g b) d

      lA : Lowest A
      lA = mul-in-lowest (g a) e (low a) h.1

      lD : Lowest D
      lD = mul-in-lowest (g b) d (low b) k.0.1

      lp : Lowest (worth g p)
      lp = worth-lowest p i

      lq : Lowest (worth g q)
      lq = worth-lowest q k.1

      both : a ≡ b → plus (mul (g a) (plus e d)) (worth g (m q)) ≡ plus (plus A (worth g p)) (plus D (worth g q))
      both t =
          ap₂ plus (mul-plus (g a) e d (low a) h.1 k.0.1 ∙ ap (λ (x : Atom N). plus A (mul (g x) d)) t) (f q k.1)
          ∙ exchange A D (worth g p) lA lD lp (worth g q) lq

      mq : Lowest (worth g (m q))
      mq = rw (f q k.1) (plus-in-lowest (worth g p) (worth g q) lp lq)

      go : (o : Ordering) → orderAtom ν a b ≡ o → worth g (mergeOneE ν a e p m q) ≡ plus (worth g (a ↑ e ∷ p)) (worth g q)
          → worth g (mergeOneE ν a e p m (b ↑ d ∷ q)) ≡ plus (worth g (a ↑ e ∷ p)) (worth g (b ↑ d ∷ q))
      go Ordering.lt o r = rw (o, mergeOneE)
          (ap (plus A) (f (b ↑ d ∷ q) k) ∙ sym (plus_assoc A (worth g p) (plus D (worth g q)) lA lp (plus-in-lowest D (worth g q) lD lq)))
      go Ordering.eq o r = rw (o, mergeOneE) (worth-put a (plus e d) (m q) (plus-in-lowest e d h.1 k.0.1) mq ∙ both (tells.same a b h.0 k.0.0 o))
      go Ordering.gt o r = rw (o, mergeOneE) (ap (plus D) r ∙ swap (plus A (worth g p)) D (worth g q) (plus-in-lowest A (worth g p) lA lp) lD lq)

  pub worth-merge : (p q : Product N) → Every (Sound Held) p → Every (Sound Held) q → worth g (mergeE ν p q) ≡ plus (worth g p) (worth g q)
  unfolding worth mergeE
  worth-merge [] q h k = sym (nought-plus (worth g q) (worth-lowest q k))
  worth-merge (a ↑ e ∷ p) q h k = worth-one a e p (mergeE ν p) h.0 h.1 (λ r x. worth-merge p r h.1 x) q k

  pub worth-raise : (p : Product N) (k : Exp) → Every (Sound Held) p → Lowest k → worth g (raiseE p k) ≡ mul (worth g p) k
  unfolding worth raiseE
  worth-raise [] k h l = sym (nought-mul k l)
  worth-raise (a ↑ e ∷ p) k h l =
      let r : worth g (raiseE p k) ≡ mul (worth g p) k = worth-raise p k h.1 l in
      let lp : Lowest (worth g p) = worth-lowest p h.1 in
      worth-put a (mul e k) (raiseE p k) (mul-in-lowest e k h.0.1 l) (rw r (mul-in-lowest (worth g p) k lp l))
      ∙ ap₂ plus (sym (mul-assoc' (g a) e k (low a) h.0.1 l)) r
      ∙ sym (plus-mul (mul (g a) e) (worth g p) k (mul-in-lowest (g a) e (low a) h.0.1) lp l)

  pub worth-inverse : (p : Product N) → Proper ν Held p → worth g (inverse p) ≡ neg (worth g p)
  worth-inverse p h =
      ap (worth g) (inverse-is ν law tells p h)
      ∙ worth-raise p (neg one) h.each (neg-lowest one one-lowest)
      ∙ mul-neg (worth g p) one
      ∙ ap neg (mul-one' (worth g p) (worth-lowest p h.each))

  -- one atom to the power 1
  pub worth-just : (a : Atom N) → worth g (a ↑ one ∷ []) ≡ g a
  unfolding worth
  worth-just a = plus-nought (mul (g a) one) (mul-in-lowest (g a) one (low a) one-lowest) ∙ mul-one' (g a) (low a)
