-- What follows from the definitions of specs/Exact: where the bounded rules give a value, the exact rules give the same; where they refuse other than by 7
-- or 8, the exact rules refuse alike.
use Rattle.std.specs.Prelude.{◌≡◌, Bool, true, false, ◌⊎◌, length, leb}
use Rattle.std.proofs.Math.Path.{refl}
use Rattle.std.proofs.Common.{ap, ◌∙◌, inl, inr}
use Rattle.std.proofs.Math.Option.{Option, none, some}
use mathlib.Core.List.{[], ◌∷◌}
use Prim.Native.Nat.{ℕ, Ordering}
use Rattle.rules.specs.Base.{Got, got, refused, ◌>>=◌, bounded, exact, within, sized, allow}
use Rattle.rules.specs.Exponents.{Exp, ranged, in_range, plus, mul, sum, times}
use Rattle.rules.specs.Trees.{
  Open,
  Atom,
  free,
  base,
  ◌↑◌,
  Product,
  Names,
  Ty,
  opened,
  basic,
  dim,
  fn,
  struct,
  list,
  Tys,
  nil,
  cons,
  Fields,
  noFields,
  field,
  orderAtom,
}
use Rattle.rules.specs.Products.{inverse, single, mergeOne, merge, multiply, divide, raise}
use Rattle.rules.specs.Replacing.{Look, asProduct, replaceFactors, replaceProduct, replaceDim, replaceTy, replaceTys, replaceFields}
use Rattle.laws.proofs.Lists.{same-number}
use Rattle.laws.specs.Exact.{OfLimits, Below}

pub same : {A : Type 0} (m : Got A) → Below m m
same m = record { gives = λ a e. e; refuses = λ k e. inl e }

allowed : {A : Type 0} (b : Bool) (k : ℕ) (a : A) → OfLimits k → Below (allow b k a) (got a)
allowed true k a h = same (got a)
allowed false k a h = record { gives = λ b e. cc; refuses = λ j e. inr (rw (same-number e) at h) }

-- step after step
pub next : {A B : Type 0} {m n : Got A} {f g : A → Got B} → Below m n → ((a : A) → Below (f a) (g a)) → Below (m >>= f) (n >>= g)
next {m} {n} {f} {g} h s = go m refl
  where
    go : (m' : Got _) → m ≡ m' → Below (m' >>= f) (n >>= g)
    go (refused k) e = record { gives = λ b e. cc; refuses = λ j i. too j (h.refuses j (e ∙ ap refused (same-number i))) }
      where
        too : (j : ℕ) → (n ≡ refused j) ⊎ OfLimits j → ((n >>= g) ≡ refused j) ⊎ OfLimits j
        too j (inl i) = inl (rw i)
        too j (inr i) = inr i
    go (got a) e = rw (h.gives a e) (s a)

ranged_below : (e : Exp) → Below (ranged bounded e) (ranged exact e)
ranged_below e = allowed (in_range e) 7 e (inl refl)

pub within-below : {A : Type 0} (n m : ℕ) (a : A) → Below (within bounded n m a) (within exact n m a)
within-below n m a = allowed (leb n m) 8 a (inr refl)

pub sized-below : {A : Type 0} (n d : ℕ) (a : A) → Below (sized bounded n d a) (sized exact n d a)
sized-below n d a = next (within-below n 2048 a) (λ a. within-below d 64 a)

pub sum_below : (e d : Exp) → Below (sum bounded e d) (sum exact e d)
unfolding sum
sum_below e d = ranged_below (plus e d)

pub times_below : (e d : Exp) → Below (times bounded e d) (times exact e d)
unfolding times
times_below e d = ranged_below (mul e d)

module _ {N : Type 0} (ν : Names N) where
  one_below : (a : Atom N) (e : Exp) (p : Product N) (f g : Product N → Got (Product N)) → ((q : Product N) → Below (f q) (g q)) → (q : Product N)
      → Below (mergeOne ν bounded a e p f q) (mergeOne ν exact a e p g q)
  unfolding mergeOne
  one_below a e p f g h [] = same _
  one_below a e p f g h (b ↑ d ∷ q) = go (orderAtom ν a b) refl (one_below a e p f g h q)
    where
      go : (o : Ordering) → orderAtom ν a b ≡ o → Below (mergeOne ν bounded a e p f q) (mergeOne ν exact a e p g q)
          → Below (mergeOne ν bounded a e p f (b ↑ d ∷ q)) (mergeOne ν exact a e p g (b ↑ d ∷ q))
      go Ordering.lt i k = rw (i, mergeOne) (next (h (b ↑ d ∷ q)) (λ r. same _))
      go Ordering.eq i k = rw (i, mergeOne) (next (sum_below e d) (λ s. next (h q) (λ r. same _)))
      go Ordering.gt i k = rw (i, mergeOne) (next k (λ r. same _))

  merge-below : (p q : Product N) → Below (merge ν bounded p q) (merge ν exact p q)
  unfolding merge
  merge-below [] q = same _
  merge-below (a ↑ e ∷ p) q = one_below a e p _ _ (merge-below p) q

  pub multiply-below : (p q : Product N) → Below (multiply ν bounded p q) (multiply ν exact p q)
  unfolding multiply
  multiply-below p q = next (merge-below p q) (λ r. within-below (length r) 64 r)

  pub divide-below : (p q : Product N) → Below (divide ν bounded p q) (divide ν exact p q)
  unfolding divide
  divide-below p q = multiply-below p (inverse q)

  pub raise-below : (p : Product N) (k : Exp) → Below (raise ν bounded p k) (raise ν exact p k)
  unfolding raise
  raise-below [] k = same _
  raise-below (a ↑ e ∷ p) k = next (times_below e k) (λ s. next (raise-below p k) (λ q. same _))

module _ {N : Type 0} (ν : Names N) (look : Look N) where
  pub factors-below : (p acc : Product N) → Below (replaceFactors ν bounded look p acc) (replaceFactors ν exact look p acc)
  unfolding replaceFactors
  factors-below [] acc = same _
  factors-below (base n ↑ e ∷ p) acc = factors-below p acc
  factors-below (free o ↑ e ∷ p) acc = go (look o) refl (factors-below p)
    where
      go : (t : Option (Ty N)) → look o ≡ t → ((acc : Product N) → Below (replaceFactors ν bounded look p acc) (replaceFactors ν exact look p acc))
          → Below (replaceFactors ν bounded look (free o ↑ e ∷ p) acc) (replaceFactors ν exact look (free o ↑ e ∷ p) acc)
      go none q h = rw (q, replaceFactors) (h acc)
      go (some t) q h =
          rw (q, replaceFactors)
          (next (same (asProduct t)) (λ d.
          next (divide-below ν acc (free o ↑ e ∷ [])) (λ left.
          next (raise-below ν d e) (λ more.
          next (multiply-below ν left more) h))))

  dim-below : (s : Option (Open N)) (p : Product N) → Below (replaceDim ν bounded look s p) (replaceDim ν exact look s p)
  unfolding replaceDim replaceProduct
  dim-below (some o) p = same _
  dim-below none p = next (factors-below p p) (λ q. same _)

  mutual
    unfolding replaceTy

    pub ty_below : (t : Ty N) → Below (replaceTy ν bounded look t) (replaceTy ν exact look t)
    ty_below (opened o) = same _
    ty_below (basic b) = same _
    ty_below (dim p) = dim-below (single p) p
    ty_below (fn ps r) = next (tys-below ps) (λ ps'. next (ty_below r) (λ r'. same _))
    ty_below (struct n as' fs) = next (tys-below as') (λ as''. next (fields-below fs) (λ fs'. same _))
    ty_below (list t) = next (ty_below t) (λ t'. same _)

    pub tys-below : (ts : Tys N) → Below (replaceTys ν bounded look ts) (replaceTys ν exact look ts)
    tys-below nil = same _
    tys-below (cons t ts) = next (ty_below t) (λ t'. next (tys-below ts) (λ ts'. same _))

    pub fields-below : (fs : Fields N) → Below (replaceFields ν bounded look fs) (replaceFields ν exact look fs)
    fields-below noFields = same _
    fields-below (field n t fs) = next (ty_below t) (λ t'. next (fields-below fs) (λ fs'. same _))
