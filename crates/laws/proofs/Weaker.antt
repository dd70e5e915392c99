-- What is well formed with fewer quantified variables is so with more.
use Rattle.std.specs.Prelude.{◌≡◌, refl, Bool, true, ◌&&◌, map, ℕ, ◌≤◌, leb, length}
use Rattle.std.proofs.Math.Bool.{and-eq-true_iff}
use Rattle.std.proofs.Common.{arith}
use borrow.Author.Tests.{ltb-true, lt-ltb}
use Rattle.rules.specs.Base.{all}
use Rattle.rules.specs.Exponents.{goodStored}
use Rattle.rules.specs.Trees.{
  Open,
  var,
  quant,
  par,
  free,
  base,
  Factor,
  ◌↑◌,
  Product,
  Names,
  Ty,
  opened,
  basic,
  dim,
  fn,
  struct,
  list,
  Tys,
  nil,
  cons,
  Fields,
  noFields,
  field,
  Con,
  equal,
  isDim,
  is_scalar,
  hasField,
  Binding,
  ◌≔◌,
  orderAtom,
}
use Rattle.rules.specs.WellFormed.{goodOpen, goodFactor, goodProduct, goodTy, goodTys, goodFields, goodCon, goodBinding, rising, atomOf, fieldNames}
use Rattle.laws.specs.Lists.{all-is}
use Rattle.laws.proofs.Lists.{is_all}

module _ {N : Type 0} (ν : Names N) (held : N → Bool) (q r : ℕ) (le : q ≤ r) where
  both : (a b c d : Bool) → a && b ≡ true → (a ≡ true → c ≡ true) → (b ≡ true → d ≡ true) → c && d ≡ true
  both a b c d h f g = let x = (and-eq-true_iff a b).0 h in (and-eq-true_iff c d).1 (f x.0, g x.1)

  open-weaker : (o : Open N) → goodOpen ν held q o ≡ true → goodOpen ν held r o ≡ true
  unfolding goodOpen
  open-weaker (var x) h = h
  open-weaker (quant i) h = lt-ltb i r (let k = ltb-true i q h in omega arith)
  open-weaker (par x) h = h

  factor-weaker : (f : Factor N) → goodFactor ν held q f ≡ true → goodFactor ν held r f ≡ true
  unfolding goodFactor
  factor-weaker (free o ↑ e) h = both (goodOpen ν held q o) (goodStored e) (goodOpen ν held r o) (goodStored e) h (open-weaker o) (λ x. x)
  factor-weaker (base n ↑ e) h = h

  pub product-weaker : (p : Product N) → goodProduct ν held q p ≡ true → goodProduct ν held r p ≡ true
  unfolding goodProduct
  product-weaker p h =
      both (all (goodFactor ν held q) p && rising (orderAtom ν) (map atomOf p)) (leb (length p) 64)
      (all (goodFactor ν held r) p && rising (orderAtom ν) (map atomOf p)) (leb (length p) 64) h
      (λ x. both (all (goodFactor ν held q) p) (rising (orderAtom ν) (map atomOf p)) (all (goodFactor ν held r) p)
      (rising (orderAtom ν) (map atomOf p)) x
      (λ y. is_all (goodFactor ν held r) p (λ f m. factor-weaker f (all-is (goodFactor ν held q) p y f m))) (λ y. y)) (λ y. y)

  mutual
    unfolding goodTy

    pub ty-weaker : (t : Ty N) → goodTy ν held q t ≡ true → goodTy ν held r t ≡ true
    ty-weaker (opened o) h = open-weaker o h
    ty-weaker (basic b) h = refl
    ty-weaker (dim p) h = product-weaker p h
    ty-weaker (fn ps u) h = both (goodTys ν held q ps) (goodTy ν held q u) (goodTys ν held r ps) (goodTy ν held r u) h (λ x. tys-weaker ps x)
        (λ x. ty-weaker u x)
    ty-weaker (struct n as' fs) h =
        both (held n && goodTys ν held q as' && goodFields ν held q fs) (rising ν.order (fieldNames fs))
        (held n && goodTys ν held r as' && goodFields ν held r fs) (rising ν.order (fieldNames fs)) h
        (λ x. both (held n && goodTys ν held q as') (goodFields ν held q fs) (held n && goodTys ν held r as') (goodFields ν held r fs) x
        (λ y. both (held n) (goodTys ν held q as') (held n) (goodTys ν held r as') y (λ z. z) (λ x. tys-weaker as' x)) (λ x. fields-weaker fs x)) (λ x. x)
    ty-weaker (list t) h = ty-weaker t h

    pub tys-weaker : (ts : Tys N) → goodTys ν held q ts ≡ true → goodTys ν held r ts ≡ true
    tys-weaker nil h = refl
    tys-weaker (cons t ts) h = both (goodTy ν held q t) (goodTys ν held q ts) (goodTy ν held r t) (goodTys ν held r ts) h (λ x. ty-weaker t x)
        (λ x. tys-weaker ts x)

    pub fields-weaker : (fs : Fields N) → goodFields ν held q fs ≡ true → goodFields ν held r fs ≡ true
    fields-weaker noFields h = refl
    fields-weaker (field n t fs) h =
        both (held n && goodTy ν held q t) (goodFields ν held q fs) (held n && goodTy ν held r t) (goodFields ν held r fs) h
        (λ x. both (held n) (goodTy ν held q t) (held n) (goodTy ν held r t) x (λ y. y) (λ x. ty-weaker t x)) (λ x. fields-weaker fs x)

  pub con-weaker : (c : Con N) → goodCon ν held q c ≡ true → goodCon ν held r c ≡ true
  unfolding goodCon
  con-weaker (equal x y) h = both (goodTy ν held q x) (goodTy ν held q y) (goodTy ν held r x) (goodTy ν held r y) h (ty-weaker x) (ty-weaker y)
  con-weaker (isDim t) h = ty-weaker t h
  con-weaker (is_scalar p) h = product-weaker p h
  con-weaker (hasField n x y) h =
      both (held n && goodTy ν held q x) (goodTy ν held q y) (held n && goodTy ν held r x) (goodTy ν held r y) h
      (λ z. both (held n) (goodTy ν held q x) (held n) (goodTy ν held r x) z (λ u. u) (ty-weaker x)) (ty-weaker y)

  pub binding-weaker : (x : Binding N) → goodBinding ν held q x ≡ true → goodBinding ν held r x ≡ true
  unfolding goodBinding
  binding-weaker (n ≔ t) h = both (held n) (goodTy ν held q t) (held n) (goodTy ν held r t) h (λ y. y) (ty-weaker t)
