-- Reading each product that is one variable to the power 1 as that variable is replacing each variable by itself.
use Rattle.std.specs.Prelude.{◌≡◌, Bool, ◌&&◌, ℕ}
use Rattle.std.proofs.Math.Path.{refl, sym, ap}
use Rattle.std.proofs.Common.{◌∙◌}
use Rattle.std.proofs.Math.Bool.{true, false}
use Rattle.std.proofs.Math.Option.{Option, none, some, get_or}
use Rattle.std.proofs.Math.Logic.{inl}
use mathlib.Core.List.Memᴰ
use Rattle.rules.specs.Base.{got, bounded, collect, only_if, and_then}
use Rattle.rules.specs.Trees.{
  Open,
  var,
  quant,
  par,
  free,
  base,
  Factor,
  ◌↑◌,
  Product,
  Names,
  Ty,
  opened,
  basic,
  dim,
  fn,
  struct,
  list,
  Tys,
  nil,
  cons,
  Fields,
  noFields,
  field,
  orderAtom,
  openOfFactor,
  opens,
  opensTys,
  opensFields,
}
use Rattle.rules.specs.Products.{single}
use Rattle.rules.specs.Plain.{plain, plainDim, plainTys, plainFields}
use Rattle.rules.specs.Replacing.{asProduct, replaceProduct, replaceDim, replaceTy, replaceTys, replaceFields}
use Rattle.rules.specs.Schemes.{renamed}
use Rattle.rules.specs.WellFormed.{goodOpen, goodProduct, goodTy, goodTys, goodFields}
use Rattle.laws.specs.Order.{Lawful, Tells}
use Rattle.laws.specs.Lists.{and_left, and_right, All, in_head}
use Rattle.laws.proofs.Lists.{some≢none}
use Rattle.laws.specs.GoodProducts.{goodAtom}
use Rattle.laws.proofs.GoodProducts.{good-product}
use Rattle.laws.proofs.RuleCases.{single-is}
use Rattle.schemes_renaming.specs.Places.{own}
use Rattle.schemes_renaming.proofs.Factors.{same-factors}
use Rattle.schemes_renaming.proofs.Products.{moved, movedFactor, Renames, product-renamed}

module _ {N : Type 0} (held : N → Bool) where
  pub own_held : (x : N) → held x ≡ true → own held (var x) ≡ some (var x)
  unfolding own
  own_held x h = rw h

  -- a name that is renamed is held
  pub own-known : (x : N) {u : Open N} → own held (var x) ≡ some u → held x ≡ true
  unfolding own
  own-known x {u} e = go (held x) refl e
    where
      go : (b : Bool) → held x ≡ b → only_if b (var x) ≡ some u → held x ≡ true
      go true i k = i
      go false i k = absurd (some≢none (sym k))

  pub own_is : (o u : Open N) → own held o ≡ some u → (x : N) × ((o ≡ var x) × (u ≡ o))
  unfolding own
  own_is (var x) u e = go (held x) e
    where
      go : (b : Bool) → only_if b (var x) ≡ some u → (y : N) × ((var x ≡ var y) × (u ≡ var x))
      go true i = (x, (refl, cc))
      go false i = absurd (some≢none (sym i))
  own_is (quant i) u e = absurd (some≢none (sym e))
  own_is (par x) u e = absurd (some≢none (sym e))

  pub own_same : (o : Open N) → moved (own held) o ≡ o
  own_same o = go (own held o) refl
    where
      go : (t : Option (Open N)) → own held o ≡ t → get_or t o ≡ o
      go none i = refl
      go (some u) i = let (x, (j, k)) = own_is o u i in k

module _ {N : Type 0} (ν : Names N) (law : Lawful (orderAtom ν)) (held : N → Bool) (q : ℕ) (tells : Tells (λ a. goodAtom ν held q a ≡ true) (orderAtom ν)) where
  -- well formed names, none of them quantified
  pub record Named (P : Open N → Type 0) : Type 0 where
    pub known : (o : Open N) → P o → goodOpen ν held q o ≡ true
    pub none-quantified : (j : ℕ) → P (quant j) → ⊥

  module _ (P : Open N → Type 0) (h : Named P) where
    pub own-renames : Renames ν held q P (own held)
    unfolding asProduct
    own-renames = record {
      dimension = λ o u p e. let (x, (i, j)) = own_is held o u e in rw (j, i);
      good = λ o u p e. let (x, (i, j)) = own_is held o u e in rw j (h.known o p);
      new = λ o u p e. let (x, (i, j)) = own_is held o u e in inl j;
      apart = λ o w u p k e f. let (x, (i, j)) = own_is held o u e in let (y, (l, m)) = own_is held w u f in sym j ∙ m;
    }

    -- a product stays
    product-own : (p : Product N) → goodProduct ν held q p ≡ true → All P (collect openOfFactor p) → replaceProduct ν bounded (renamed (own held)) p ≡ got p
    product-own p g k =
        let (r, m) = product-renamed ν law held q tells P (own held) own-renames p g k in
        m.is ∙ ap got (same-factors ν law r p m.moves.in_order (good-product ν law held q p g).in_order
        (λ x i. let (z, (d, j)) = m.moves.from x i in rw (j, factor-same z) d)
        (λ x i. rw (factor-same x) at (m.moves.to x i)))
      where
        factor-same : (z : Factor N) → movedFactor (own held) z ≡ z
        factor-same (free o ↑ e) = ap (λ (u : Open N). free u ↑ e) (own_same held o)
        factor-same (base n ↑ e) = refl

    dim-own : (s : Option (Open N)) (p : Product N) → single p ≡ s → goodProduct ν held q p ≡ true → All P (collect openOfFactor p)
        → replaceDim ν bounded (renamed (own held)) s p ≡ got (plainDim s p)
    unfolding replaceDim plainDim collect single goodOpen
    dim-own none p i g k = rw (product-own p g k)
    dim-own (some (var x)) p i g k = rw (own_held held x (h.known (var x) (k (var x) (rw (single-is p (var x) i) in_head))))
    dim-own (some (quant j)) p i g k = absurd (h.none-quantified j (k (quant j) (rw (single-is p (quant j) i) in_head)))
    dim-own (some (par x)) p i g k = absurd (some≢none (sym i ∙ ap single (single-is p (par x) i)))

    own-type : (o : Open N) → got (get_or (renamed (own held) o) (opened o)) ≡ got (opened o)
    own-type o = go (own held o) refl
      where
        go : (t : Option (Open N)) → own held o ≡ t → got (get_or (and_then t (λ u. some (opened u))) (opened o)) ≡ got (opened o)
        go none i = refl
        go (some u) i = let (x, (j, k)) = own_is held o u i in rw k

    mutual
      unfolding replaceTy opens goodTy plain

      pub plain-once : (t : Ty N) → goodTy ν held q t ≡ true → All P (opens t) → replaceTy ν bounded (renamed (own held)) t ≡ got (plain t true)
      plain-once (opened o) g k = own-type o
      plain-once (basic b) g k = refl
      plain-once (dim p) g k = dim-own (single p) p refl g k
      plain-once (fn ps r) g k =
          let a = plain-tys ps (and_left (goodTys ν held q ps) _ g) (λ o m. k o (Memᴰ.append_left (opens r) m)) in
          let b = plain-once r (and_right (goodTys ν held q ps) _ g) (λ o m. k o (Memᴰ.append_right (opensTys ps) m)) in
          rw (a, b)
      plain-once (struct n as' fs) g k =
          let ga = and_left (held n && goodTys ν held q as' && goodFields ν held q fs) _ g in
          let a = plain-tys as' (and_right (held n) _ (and_left (held n && goodTys ν held q as') _ ga)) (λ o m. k o (Memᴰ.append_left (opensFields fs) m)) in
          let b = plain-fields fs (and_right (held n && goodTys ν held q as') _ ga) (λ o m. k o (Memᴰ.append_right (opensTys as') m)) in
          rw (a, b)
      plain-once (list t) g k = let a = plain-once t g k in rw a

      plain-tys : (ts : Tys N) → goodTys ν held q ts ≡ true → All P (opensTys ts) → replaceTys ν bounded (renamed (own held)) ts ≡ got (plainTys ts true)
      plain-tys nil g k = refl
      plain-tys (cons t ts) g k =
          let a = plain-once t (and_left (goodTy ν held q t) _ g) (λ o m. k o (Memᴰ.append_left (opensTys ts) m)) in
          let b = plain-tys ts (and_right (goodTy ν held q t) _ g) (λ o m. k o (Memᴰ.append_right (opens t) m)) in
          rw (a, b)

      plain-fields : (fs : Fields N) → goodFields ν held q fs ≡ true → All P (opensFields fs)
          → replaceFields ν bounded (renamed (own held)) fs ≡ got (plainFields fs true)
      plain-fields noFields g k = refl
      plain-fields (field n t fs) g k =
          let a = plain-once t (and_right (held n) _ (and_left (held n && goodTy ν held q t) _ g)) (λ o m. k o (Memᴰ.append_left (opensFields fs) m)) in
          let b = plain-fields fs (and_right (held n && goodTy ν held q t) _ g) (λ o m. k o (Memᴰ.append_right (opens t) m)) in
          rw (a, b)
