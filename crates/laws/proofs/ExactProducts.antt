-- What follows from the definitions of specs/ExactProducts: the exact product and power of products, as functions: exact arithmetic always gives a value,
-- and the bounded rules give that value or a refusal.
use Rattle.std.specs.Prelude.{◌≡◌}
use Rattle.std.proofs.Math.Path.{refl}
use mathlib.Core.List.{[], ◌∷◌}
use Prim.Native.Nat.{Ordering}
use Rattle.rules.specs.Base.{Got, got, bounded, exact}
use Rattle.rules.specs.Exponents.{Exp, plus, mul, sum, times}
use Rattle.rules.specs.Trees.{Atom, ◌↑◌, Product, Names, orderAtom}
use Rattle.rules.specs.Products.{inverse, mergeOne, merge, multiply, divide, raise}
use Rattle.laws.specs.Exact.{Below}
use Rattle.laws.proofs.Exact.{multiply-below, divide-below, raise-below}
use Rattle.laws.specs.ExactProducts.{raiseE, mergeOneE, mergeE}

pub sum-exact : (e d s : Exp) → sum exact e d ≡ got s → plus e d ≡ s
unfolding sum
sum-exact e d s h = cc

pub times-exact : (e k s : Exp) → times exact e k ≡ got s → mul e k ≡ s
unfolding times
times-exact e k s h = cc

module _ {N : Type 0} (ν : Names N) where
  -- the scalar is the unit
  pub merge-scalar : (p : Product N) → mergeE ν p [] ≡ p
  unfolding mergeE mergeOneE
  merge-scalar [] = refl
  merge-scalar (a ↑ e ∷ p) = refl

  pub scalar-merge : (q : Product N) → mergeE ν [] q ≡ q
  unfolding mergeE
  scalar-merge q = refl

  one-exact : (a : Atom N) (e : Exp) (p : Product N) (m : Product N → Got (Product N)) (n : Product N → Product N)
      → ((q : Product N) → m q ≡ got (n q)) → (q : Product N) → mergeOne ν exact a e p m q ≡ got (mergeOneE ν a e p n q)
  unfolding mergeOne mergeOneE sum
  one-exact a e p m n h [] = refl
  one-exact a e p m n h (b ↑ d ∷ q) = go (orderAtom ν a b) refl (one-exact a e p m n h q)
    where
      go : (o : Ordering) → orderAtom ν a b ≡ o → mergeOne ν exact a e p m q ≡ got (mergeOneE ν a e p n q)
          → mergeOne ν exact a e p m (b ↑ d ∷ q) ≡ got (mergeOneE ν a e p n (b ↑ d ∷ q))
      go Ordering.lt j r = rw (j, mergeOne, mergeOneE, h)
      go Ordering.eq j r = rw (j, mergeOne, mergeOneE, h)
      go Ordering.gt j r = rw (j, mergeOne, mergeOneE, r)

  pub merge-exact : (p q : Product N) → merge ν exact p q ≡ got (mergeE ν p q)
  unfolding merge mergeE
  merge-exact [] q = refl
  merge-exact (a ↑ e ∷ p) q = one-exact a e p _ _ (merge-exact p) q

  pub multiply-exact : (p q : Product N) → multiply ν exact p q ≡ got (mergeE ν p q)
  unfolding multiply
  multiply-exact p q = rw (merge-exact p q)

  pub divide-exact : (p q : Product N) → divide ν exact p q ≡ got (mergeE ν p (inverse q))
  unfolding divide
  divide-exact p q = multiply-exact p (inverse q)

  pub raise-exact : (p : Product N) (k : Exp) → raise ν exact p k ≡ got (raiseE p k)
  unfolding raise raiseE times
  raise-exact [] k = refl
  raise-exact (a ↑ e ∷ p) k = rw (raise-exact p k)

  -- a value of the bounded rules is the exact one
  same-value : {m n : Got (Product N)} {r s : Product N} → Below m n → n ≡ got s → m ≡ got r → r ≡ s
  same-value b e h = let i = b.gives _ h in cc

  pub multiply-value : (p q r : Product N) → multiply ν bounded p q ≡ got r → r ≡ mergeE ν p q
  multiply-value p q r h = same-value (multiply-below ν p q) (multiply-exact p q) h

  pub divide-value : (p q r : Product N) → divide ν bounded p q ≡ got r → r ≡ mergeE ν p (inverse q)
  divide-value p q r h = same-value (divide-below ν p q) (divide-exact p q) h

  pub raise-value : (p : Product N) (k : Exp) (r : Product N) → raise ν bounded p k ≡ got r → r ≡ raiseE p k
  raise-value p k r h = same-value (raise-below ν p k) (raise-exact p k) h
