-- Products with other names in them: every step on them does the same.
use Rattle.std.specs.Prelude.{◌≡◌, Bool, true, false, length}
use Rattle.std.proofs.Math.Path.{refl}
use mathlib.Core.List.{[], ◌∷◌, map}
use Prim.Native.Nat.{Ordering}
use Rattle.std.proofs.lemmas.List.{length-map}
use Rattle.rules.specs.Base.{Got, Limits, within, is_yes}
use Rattle.rules.specs.Exponents.{Exp, Exp-dec, one, isZero, sum, times}
use Rattle.rules.specs.Trees.{Open, var, quant, par, Atom, free, base, ◌↑◌, Product, Names, Ty, opened, basic, dim, fn, struct, list, orderOpen, orderAtom}
use Rattle.rules.specs.Products.{put, inverse, single, mergeOne, merge, multiply, divide, raise}
use Rattle.rules.specs.Replacing.{asProduct}
use Rattle.rules.specs.Offices.{Keeps, mapOpen, mapAtom, mapFactor, mapTy, mapOption}
use Rattle.theorems_offices.proofs.Options.{only-map}
use Rattle.theorems_offices.proofs.Over.{Over, next, gives, same_over, within-over}

-- ══ Where no names are compared ══

module _ {N M : Type 0} (f : N → M) where
  pub put_map : (a : Atom N) (e : Exp) (p : Product N) → put (mapAtom f a) e (map (mapFactor f) p) ≡ map (mapFactor f) (put a e p)
  put_map a e p = go (isZero e) refl
    where
      go : (b : Bool) → isZero e ≡ b → put (mapAtom f a) e (map (mapFactor f) p) ≡ map (mapFactor f) (put a e p)
      go true q = rw (q, put)
      go false q = rw (q, put)

  pub inverse-map : (p : Product N) → inverse (map (mapFactor f) p) ≡ map (mapFactor f) (inverse p)
  unfolding inverse
  inverse-map [] = refl
  inverse-map (a ↑ e ∷ p) = rw (inverse-map p)

  pub product-map : (t : Ty N) → Over (map (mapFactor f)) (asProduct t) (asProduct (mapTy f t))
  unfolding asProduct mapTy
  product-map (opened (var x)) = gives refl
  product-map (opened (quant i)) = gives refl
  product-map (opened (par x)) = record { is = refl }
  product-map (basic b) = record { is = refl }
  product-map (dim p) = gives refl
  product-map (fn ps r) = record { is = refl }
  product-map (struct n as' fs) = record { is = refl }
  product-map (list t) = record { is = refl }

  pub single-map : (p : Product N) → single (map (mapFactor f) p) ≡ mapOption (mapOpen f) (single p)
  unfolding single
  single-map [] = refl
  single-map (a ↑ e ∷ g ∷ p) = refl
  single-map (free (var x) ↑ e ∷ []) = only-map (mapOpen f) (is_yes (Exp-dec e one)) (var x)
  single-map (free (quant i) ↑ e ∷ []) = only-map (mapOpen f) (is_yes (Exp-dec e one)) (quant i)
  single-map (free (par x) ↑ e ∷ []) = refl
  single-map (base n ↑ e ∷ []) = refl

-- ══ Where names are compared ══

module _ {N M : Type 0} (ν : Names N) (μ : Names M) (f : N → M) (keeps : Keeps ν μ f) where
  pub order_open : (a b : Open N) → orderOpen μ (mapOpen f a) (mapOpen f b) ≡ orderOpen ν a b
  unfolding orderOpen
  order_open (var a) (var b) = keeps.ordered a b
  order_open (var a) (quant j) = refl
  order_open (var a) (par b) = refl
  order_open (quant i) (var b) = refl
  order_open (quant i) (quant j) = refl
  order_open (quant i) (par b) = refl
  order_open (par a) (var b) = refl
  order_open (par a) (quant j) = refl
  order_open (par a) (par b) = keeps.ordered a b

  pub order-atom : (a b : Atom N) → orderAtom μ (mapAtom f a) (mapAtom f b) ≡ orderAtom ν a b
  unfolding orderAtom
  order-atom (free a) (free b) = order_open a b
  order-atom (free a) (base n) = refl
  order-atom (base m) (free b) = refl
  order-atom (base m) (base n) = keeps.ordered m n

  module _ (l : Limits) where
    abbrev pub Products : Got (Product N) → Got (Product M) → Type 0
    Products = Over (map (mapFactor f))

    one_map : (a : Atom N) (e : Exp) (p : Product N) (m : Product N → Got (Product N)) (n : Product M → Got (Product M))
        → ((q : Product N) → Products (m q) (n (map (mapFactor f) q)))
        → (q : Product N) → Products (mergeOne ν l a e p m q) (mergeOne μ l (mapAtom f a) e (map (mapFactor f) p) n (map (mapFactor f) q))
    unfolding mergeOne
    one_map a e p m n h [] = gives refl
    one_map a e p m n h (b ↑ d ∷ q) = go (orderAtom ν a b) refl (order-atom a b) (one_map a e p m n h q)
      where
        go : (o : Ordering) → orderAtom ν a b ≡ o → orderAtom μ (mapAtom f a) (mapAtom f b) ≡ orderAtom ν a b
            → Products (mergeOne ν l a e p m q) (mergeOne μ l (mapAtom f a) e (map (mapFactor f) p) n (map (mapFactor f) q))
            → Products (mergeOne ν l a e p m (b ↑ d ∷ q)) (mergeOne μ l (mapAtom f a) e (map (mapFactor f) p) n (map (mapFactor f) (b ↑ d ∷ q)))
        go Ordering.lt i r k = rw (r, mergeOne, i) (next (h (b ↑ d ∷ q)) (λ s s' j. gives (rw j)))
        go Ordering.eq i r k = rw (r, mergeOne, i) (next (same_over (sum l e d)) (λ s s' j. rw j (next (h q) (λ t t' j. gives (rw j (put_map f a s t))))))
        go Ordering.gt i r k = rw (r, mergeOne, i) (next k (λ s s' j. gives (rw j)))

    pub merge-map : (p q : Product N) → Products (merge ν l p q) (merge μ l (map (mapFactor f) p) (map (mapFactor f) q))
    unfolding merge
    merge-map [] q = gives refl
    merge-map (a ↑ e ∷ p) q = one_map a e p _ _ (merge-map p) q

    within-map : (p : Product N) → Products (within l (length p) 64 p) (within l (length (map (mapFactor f) p)) 64 (map (mapFactor f) p))
    within-map p = rw length-map (within-over (map (mapFactor f)) l (length p) 64 p)

    pub multiply-map : (p q : Product N) → Products (multiply ν l p q) (multiply μ l (map (mapFactor f) p) (map (mapFactor f) q))
    unfolding multiply
    multiply-map p q = next (merge-map p q) (λ r r' i. rw i (within-map r))

    pub divide-map : (p q : Product N) → Products (divide ν l p q) (divide μ l (map (mapFactor f) p) (map (mapFactor f) q))
    unfolding divide
    divide-map p q = rw (inverse-map f q) (multiply-map p (inverse q))

    pub raise-map : (p : Product N) (k : Exp) → Products (raise ν l p k) (raise μ l (map (mapFactor f) p) k)
    unfolding raise
    raise-map [] k = gives refl
    raise-map (a ↑ e ∷ p) k = next (same_over (times l e k)) (λ s s' i. next (raise-map p k) (λ q q' j. gives (rw (i, j) (put_map f a s q))))
