-- What products keep: their order and their names; and a factor that is divided away is gone.
use Rattle.std.specs.Prelude.{◌≡◌, Bool, true, false, pos, neg_ℤ, ◌+ℤ◌, ◌*ℤ◌, length}
use Rattle.std.proofs.Math.Path.{refl}
use Rattle.std.proofs.Common.{ap, ◌∙◌, arith}
use mathlib.Core.List.{[], ◌∷◌, ◌++◌}
use Rattle.std.proofs.Math.Option.{Option, none as nothing, some}
use Prim.Native.Nat.{◌*◌, Ordering}
use Rattle.std.proofs.Math.Nat.{zero-div}
use Rattle.std.proofs.Math.IntN.{+ℤ_invr}
use Rattle.rules.specs.Base.{Got, got, Limits, bounded, exact, each}
use Rattle.rules.specs.Exponents.{Exp, frac, isZero, in_range, lowest, gcd, neg, plus, mul, inverted, sum, times, timesInverse, quotient}
use Rattle.rules.specs.Trees.{Atom, Factor, ◌↑◌, Product, Names, orderAtom}
use Rattle.rules.specs.Products.{put, inverse, mergeOne, merge, multiply, divide, raise}
use Rattle.rules.specs.Rounds.{otherSide}
use Rattle.rules.specs.WellFormed.{atomOf}
use Rattle.laws.proofs.Integers.{neg-mul}
use Rattle.laws.specs.Lists.{Every}
use Rattle.laws.specs.Order.{Lawful}
use Rattle.laws.proofs.Order.{self}
use Rattle.laws.specs.Sorted.{Before, Sorted}
use Rattle.laws.proofs.Sorted.{merge-sorted, merge-each}
use Rattle.theorems_ending.proofs.Yields.{Yields, yields, refuses, next, weaken, also, allowed, within-yields}

-- ══ Exponents ══

sum-yields : (l : Limits) (a b : Exp) → Yields (sum l a b) (λ s. s ≡ plus a b)
unfolding sum
sum-yields exact a b = yields refl
sum-yields bounded a b = allowed (in_range (plus a b)) 7 (plus a b) (omega arith) (λ t. refl)

times-yields : (l : Limits) (a b : Exp) → Yields (times l a b) (λ s. Unit {0})
unfolding times
times-yields exact a b = yields tt
times-yields bounded a b = allowed (in_range (mul a b)) 7 (mul a b) (omega arith) (λ t. tt)

quotient-yields : (l : Limits) (a b : Exp) → Yields (quotient l a b) (λ s. Unit {0})
unfolding quotient
quotient-yields l a b = go (inverted b)
  where
    go : (i : Option Exp) → Yields (timesInverse l a i) (λ s. Unit {0})
    go nothing = refuses (omega arith)
    go (some c) = times-yields l a c

-- a power less itself is zero
cancels : (e : Exp) → isZero (plus e (neg e)) ≡ true
unfolding plus neg lowest
cancels (frac n d) =
    let z : n *ℤ pos d +ℤ neg_ℤ n *ℤ pos d ≡ pos 0 = ap (n *ℤ pos d +ℤ◌) (neg-mul n (pos d)) ∙ +ℤ_invr (n *ℤ pos d) in
    rw (z, zero-div (gcd 0 (d * d)))

-- ══ Order and names ══

module _ {N : Type 0} where
  -- all atoms of a product
  abbrev pub Atoms : (Atom N → Type 0) → Product N → Type 0
  Atoms P p = Every (λ f. P (atomOf f)) p

  -- the same atoms in the same order, some left out
  pub data Thinned : Product N → Product N → Type 0 where
    end : Thinned [] []
    kept : {a : Atom N} {e d : Exp} {p q : Product N} → Thinned p q → Thinned (a ↑ e ∷ p) (a ↑ d ∷ q)
    dropped : {a : Atom N} {e : Exp} {p q : Product N} → Thinned p q → Thinned (a ↑ e ∷ p) q

  pub thin-atoms : (P : Atom N → Type 0) {p q : Product N} → Thinned p q → Atoms P p → Atoms P q
  thin-atoms P end a = a
  thin-atoms P (kept t) a = (a.0, thin-atoms P t a.1)
  thin-atoms P (dropped t) a = thin-atoms P t a.1

  thin-put : {a : Atom N} {e : Exp} {p q : Product N} (d : Exp) → Thinned p q → Thinned (a ↑ e ∷ p) (put a d q)
  thin-put {a} {e} {p} {q} d t = go (isZero d) refl
    where
      go : (b : Bool) → isZero d ≡ b → Thinned (a ↑ e ∷ p) (put a d q)
      go true z = rw (z, put) (dropped t)
      go false z = rw (z, put) (kept t)

  pub inverse-thins : (p : Product N) → Thinned p (inverse p)
  unfolding inverse
  inverse-thins [] = end
  inverse-thins (a ↑ e ∷ p) = kept (inverse-thins p)

  other-atom : (l : Limits) (k : Exp) (a : Atom N) (e : Exp) → Yields (otherSide l k (a ↑ e)) (λ f. atomOf f ≡ a)
  unfolding otherSide
  other-atom l k a e = next (quotient-yields l (neg e) k) (λ s u. yields refl)

  keeps : {a : Atom N} {e : Exp} {p q : Product N} (f : Factor N) → atomOf f ≡ a → Thinned p q → Thinned (a ↑ e ∷ p) (f ∷ q)
  keeps (b ↑ d) h t = rw h (kept t)

  pub others-thin : (l : Limits) (k : Exp) (p : Product N) → Yields (each (otherSide l k) p) (Thinned p)
  unfolding each
  others-thin l k [] = yields end
  others-thin l k (a ↑ e ∷ p) = next (other-atom l k a e) (λ f h. next (others-thin l k p) (λ q t. yields (keeps f h t)))

module _ {N : Type 0} (ν : Names N) where
  thin-before : (c : Atom N) {p q : Product N} → Thinned p q → Before ν c p → Before ν c q
  thin-before c end h = h
  thin-before c (kept t) h = (h.0, thin-before c t h.1)
  thin-before c (dropped t) h = thin-before c t h.1

  pub thin-sorted : {p q : Product N} → Thinned p q → Sorted ν p → Sorted ν q
  thin-sorted end h = h
  thin-sorted (kept {a} t) h = (thin-before a t h.0, thin-sorted t h.1)
  thin-sorted (dropped t) h = thin-sorted t h.1

module _ {N : Type 0} (ν : Names N) (l : Limits) where
  raise-thins : (p : Product N) (k : Exp) → Yields (raise ν l p k) (Thinned p)
  unfolding raise
  raise-thins [] k = yields end
  raise-thins (a ↑ e ∷ p) k = next (times-yields l e k) (λ s u. next (raise-thins p k) (λ q t. yields (thin-put s t)))

  one-numbered : (a : Atom N) (e : Exp) (p : Product N) (m : Product N → Got (Product N)) → ((q : Product N) → Yields (m q) (λ r. Unit {0}))
      → (q : Product N) → Yields (mergeOne ν l a e p m q) (λ r. Unit {0})
  unfolding mergeOne
  one-numbered a e p m f [] = yields tt
  one-numbered a e p m f (b ↑ d ∷ q) = go (orderAtom ν a b) refl (one-numbered a e p m f q)
    where
      go : (o : Ordering) → orderAtom ν a b ≡ o → Yields (mergeOne ν l a e p m q) (λ r. Unit {0}) → Yields (mergeOne ν l a e p m (b ↑ d ∷ q)) (λ r. Unit {0})
      go Ordering.lt j r = rw (j, mergeOne) (next (f (b ↑ d ∷ q)) (λ s u. yields tt))
      go Ordering.eq j r = rw (j, mergeOne) (next (sum-yields l e d) (λ s u. next (f q) (λ t v. yields tt)))
      go Ordering.gt j r = rw (j, mergeOne) (next r (λ s u. yields tt))

  merge-numbered : (p q : Product N) → Yields (merge ν l p q) (λ r. Unit {0})
  unfolding merge
  merge-numbered [] q = yields tt
  merge-numbered (a ↑ e ∷ p) q = one-numbered a e p _ (merge-numbered p) q

  merge-atoms : (P : Atom N → Type 0) (p q : Product N) → Atoms P p → Atoms P q → Yields (merge ν l p q) (λ r. Unit {0} × Atoms P r)
  merge-atoms P p q h k = also (merge-numbered p q) (merge-each (λ f. P (atomOf f)) ν l (λ a b e d s i j x z. i) p q h k)

-- ══ In order, and with names of one kind ══

pub record Neat {N : Type 0} (ν : Names N) (P : Atom N → Type 0) (p : Product N) : Type 0 where
  pub sorted : Sorted ν p
  pub atoms : Atoms P p

pub thin-neat : {N : Type 0} {ν : Names N} {P : Atom N → Type 0} {p q : Product N} → Thinned p q → Neat ν P p → Neat ν P q
thin-neat {ν} {P} t n = record { sorted = thin-sorted ν t n.sorted; atoms = thin-atoms P t n.atoms }

module _ {N : Type 0} (ν : Names N) (law : Lawful (orderAtom ν)) (l : Limits) where
  pub multiply-neat : {P : Atom N → Type 0} {p q : Product N} → Neat ν P p → Neat ν P q → Yields (multiply ν l p q) (Neat ν P)
  unfolding multiply
  multiply-neat {P} {p} {q} m n =
      next (also (merge-atoms ν l P p q m.atoms n.atoms) (merge-sorted ν law l p q m.sorted n.sorted)) (λ r g.
      within-yields l (length r) 64 r (record { sorted = g.1.0; atoms = g.0.1 }))

  pub divide-neat : {P : Atom N → Type 0} {p q : Product N} → Neat ν P p → Neat ν P q → Yields (divide ν l p q) (Neat ν P)
  unfolding divide
  divide-neat {q} m n = multiply-neat m (thin-neat (inverse-thins q) n)

  pub raise-neat : {P : Atom N → Type 0} {p : Product N} (k : Exp) → Neat ν P p → Yields (raise ν l p k) (Neat ν P)
  raise-neat {p} k n = weaken (raise-thins ν l p k) (λ q t. thin-neat t n)

  -- ══ A factor divided away ══

  merge-end : (p : Product N) → merge ν l p [] ≡ got p
  unfolding merge mergeOne
  merge-end [] = refl
  merge-end (a ↑ e ∷ p) = refl

  before_at : (b : Atom N) (pre post : Product N) (a : Atom N) (e : Exp) → Before ν b (pre ++ (a ↑ e ∷ post)) → orderAtom ν b a ≡ Ordering.lt
  before_at b [] post a e h = h.0
  before_at b (c ↑ d ∷ pre) post a e h = before_at b pre post a e h.1

  merge-away : (pre post : Product N) (a : Atom N) (e : Exp) → Sorted ν (pre ++ (a ↑ e ∷ post))
      → Yields (merge ν l (pre ++ (a ↑ e ∷ post)) (a ↑ neg e ∷ [])) (λ r. r ≡ pre ++ post)
  unfolding merge mergeOne
  merge-away [] post a e h =
      rw (self law a, mergeOne) (next (sum-yields l e (neg e)) (λ s g. rw (merge-end post)
      (yields (rw (g, cancels e, put)))))
  merge-away (b ↑ d ∷ pre) post a e h =
      rw (before_at b pre post a e h.0, mergeOne) (next (merge-away pre post a e h.1) (λ r g. yields (ap (b ↑ d ∷◌) g)))

  -- of a product in order, divided by one of its factors, the others are left
  pub divide-away : (pre post : Product N) (a : Atom N) (e : Exp) → Sorted ν (pre ++ (a ↑ e ∷ post))
      → Yields (divide ν l (pre ++ (a ↑ e ∷ post)) (a ↑ e ∷ [])) (λ r. r ≡ pre ++ post)
  unfolding divide multiply inverse
  divide-away pre post a e h = next (merge-away pre post a e h) (λ r g. within-yields l (length r) 64 r g)
