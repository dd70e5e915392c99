-- Which open names occur in a type after replacing by any look.
use Rattle.std.specs.Prelude.{◌≡◌, refl, Bool, true, ◌&&◌, ◌⊎◌, ℕ}
use Rattle.std.proofs.Math.Path.{sym}
use Rattle.std.proofs.Common.{◌∙◌, inl, inr}
use Rattle.std.proofs.Math.Option.{Option, none, some, get_or}
use mathlib.Core.List.Memᴰ
use Rattle.rules.specs.Base.{got, bounded, exact, collect}
use Rattle.rules.specs.Trees.{
  Open,
  free,
  Product,
  Names,
  Ty,
  opened,
  basic,
  dim,
  fn,
  struct,
  list,
  Tys,
  nil,
  cons,
  Fields,
  noFields,
  field,
  orderAtom,
  openOfFactor,
  opens,
  opensTys,
  opensFields,
}
use Rattle.rules.specs.Products.{just, single}
use Rattle.rules.specs.Replacing.{Look, replaceFactors, replaceProduct, replaceDim, replaceTy, replaceTys, replaceFields}
use Rattle.rules.specs.WellFormed.{goodProduct, goodTy, goodTys, goodFields}
use Rattle.laws.specs.Order.{Lawful, Tells}
use Rattle.laws.specs.Lists.{and_left, and_right, All, all_nil, all_cons, in_head, Every}
use Rattle.laws.proofs.Lists.{all_append, one-step, two_steps}
use Rattle.laws.proofs.Exact.{factors-below}
use Rattle.laws.specs.GoodProducts.{goodAtom}
use Rattle.laws.proofs.GoodProducts.{good-proper}
use Rattle.laws.proofs.KeepsGood.{GoodTy}
use Rattle.laws.proofs.RuleCases.{single-is}
use Rattle.laws.proofs.Occurs.{OnFactor, each_opens, opens-each, valued-on, as-product-is, fits-got, fits-fit}
use Rattle.laws.proofs.Evaluation.{valued, value_of, meantBy, orSelf, Fit, replace-exact}

module _ {N : Type 0} (ν : Names N) (law : Lawful (orderAtom ν)) (held : N → Bool) (q : ℕ) (tells : Tells (λ a. goodAtom ν held q a ≡ true) (orderAtom ν))
    (look : Look N) (good : (o : Open N) (t : Ty N) → look o ≡ some t → GoodTy ν law held q t) (P Q : Open N → Type 0)
    (stay : (o : Open N) → P o → look o ≡ none → Q o) (put : (o : Open N) (t : Ty N) → P o → look o ≡ some t → All Q (opens t)) where
  product-occurs : (p r : Product N) → goodProduct ν held q p ≡ true → replaceProduct ν bounded look p ≡ got r → All P (collect openOfFactor p)
      → All Q (collect openOfFactor r)
  unfolding replaceProduct value_of meantBy orSelf opens collect
  product-occurs p r g e h =
      let i : replaceFactors ν exact look p p ≡ got r = (factors-below ν look p p).gives r e in
      let f = fits-got ν law held q exact look good p p r i in
      let z : got (valued ν (value_of look) p) ≡ got r = sym (replace-exact ν law tells look p (good-proper ν law held q p g) f) ∙ i in
      let y : valued ν (value_of look) p ≡ r = cc in
      rw (sym y) (each_opens Q (valued ν (value_of look) p)
      (valued-on Q ν (value_of look) p (λ n. (tt, tt))
      (λ o m. value o (h o m) (fits-fit ν (λ a. goodAtom ν held q a ≡ true) look p f o m) (look o) refl)))
    where
      factors : (o : Open N) (t : Ty N) (d : Product N) → P o → look o ≡ some t → (t ≡ dim d) ⊎ ((u : Open N) × (t ≡ opened u) × (d ≡ just u))
          → All Q (collect openOfFactor d)
      factors o t d k i (inl j) = let a : All Q (opens (dim d)) = rw j at (put o t k i) in a
      factors o t d k i (inr (u, j, l)) = let a : All Q (opens (opened u)) = rw j at (put o t k i) in rw l a

      value : (o : Open N) → P o → Fit ν (λ a. goodAtom ν held q a ≡ true) look o → (t : Option (Ty N)) → look o ≡ t → Every (OnFactor Q) (meantBy t (free o))
      value o k f none i = (stay o k i, tt)
      value o k f (some t) i = let d = f.bound t i in rw (d.is, orSelf) (opens-each Q d.product (factors o t d.product k i (as-product-is t d.product d.is)))

  -- what an open name becomes
  name-occurs : (o : Open N) (u u' : Ty N) → P o → get_or (look o) u ≡ u' → (Q o → All Q (opens u)) → All Q (opens u')
  name-occurs o u u' k e h = go (look o) refl
    where
      go : (t : Option (Ty N)) → look o ≡ t → All Q (opens u')
      go none i = let z : u ≡ u' = rw i at e in rw (sym z) (h (stay o k i))
      go (some t) i = let z : t ≡ u' = rw i at e in rw (sym z) (put o t k i)

  dim-occurs : (s : Option (Open N)) (p : Product N) (u' : Ty N) → single p ≡ s → goodProduct ν held q p ≡ true
      → replaceDim ν bounded look s p ≡ got u' → All P (collect openOfFactor p) → All Q (opens u')
  unfolding replaceDim opens collect
  dim-occurs (some o) p u' i g e h =
      let z : p ≡ just o = single-is p o i in
      name-occurs o (dim p) u' (h o (rw z in_head)) (cc) (λ k. rw z (all_cons Q k (all_nil Q)))
  dim-occurs none p u' i g e h =
      let r = one-step (replaceProduct ν bounded look p) dim u' e in
      rw (sym r.is) (product-occurs p r.value g r.gave h)

  mutual
    unfolding replaceTy opens goodTy

    -- the open names of a replaced type: those that stay, and those of what is put in
    pub ty-occurs : (u u' : Ty N) → goodTy ν held q u ≡ true → replaceTy ν bounded look u ≡ got u' → All P (opens u) → All Q (opens u')
    ty-occurs (opened o) u' g e h = name-occurs o (opened o) u' (h o in_head) (cc) (λ k. all_cons Q k (all_nil Q))
    ty-occurs (basic b) u' g e h = let z : basic b ≡ u' = cc in rw (sym z) (all_nil Q)
    ty-occurs (dim p) u' g e h = dim-occurs (single p) p u' refl g e h
    ty-occurs (fn ps r) u' g e h =
        let s = two_steps (replaceTys ν bounded look ps) (λ _. replaceTy ν bounded look r) fn u' e in
        rw (sym s.both) (all_append Q (opensTys s.first) (tys-occur ps s.first (and_left (goodTys ν held q ps) _ g) s.gave (λ o m. h o
        (Memᴰ.append_left (opens r) m))) (ty-occurs r s.second (and_right (goodTys ν held q ps) _ g) s.then (λ o m. h o (Memᴰ.append_right (opensTys ps) m))))
    ty-occurs (struct n as' fs) u' g e h =
        let s = two_steps (replaceTys ν bounded look as') (λ _. replaceFields ν bounded look fs) (struct n) u' e in
        let ga = and_left (held n && goodTys ν held q as' && goodFields ν held q fs) _ g in
        rw (sym s.both) (all_append Q (opensTys s.first)
        (tys-occur as' s.first (and_right (held n) _ (and_left (held n && goodTys ν held q as') _ ga)) s.gave (λ o m. h o
        (Memᴰ.append_left (opensFields fs) m)))
        (fields-occur fs s.second (and_right (held n && goodTys ν held q as') _ ga) s.then (λ o m. h o (Memᴰ.append_right (opensTys as') m))))
    ty-occurs (list u) u' g e h = let s = one-step (replaceTy ν bounded look u) list u' e in rw (sym s.is) (ty-occurs u s.value g s.gave h)

    tys-occur : (us us' : Tys N) → goodTys ν held q us ≡ true → replaceTys ν bounded look us ≡ got us' → All P (opensTys us) → All Q (opensTys us')
    tys-occur nil us' g e h = let z : nil ≡ us' = cc in rw (sym z) (all_nil Q)
    tys-occur (cons u us) us' g e h =
        let s = two_steps (replaceTy ν bounded look u) (λ _. replaceTys ν bounded look us) cons us' e in
        rw (sym s.both) (all_append Q (opens s.first)
        (ty-occurs u s.first (and_left (goodTy ν held q u) _ g) s.gave (λ o m. h o (Memᴰ.append_left (opensTys us) m)))
        (tys-occur us s.second (and_right (goodTy ν held q u) _ g) s.then (λ o m. h o (Memᴰ.append_right (opens u) m))))

    fields-occur : (fs fs' : Fields N) → goodFields ν held q fs ≡ true → replaceFields ν bounded look fs ≡ got fs' → All P (opensFields fs)
        → All Q (opensFields fs')
    fields-occur noFields fs' g e h = let z : noFields ≡ fs' = cc in rw (sym z) (all_nil Q)
    fields-occur (field n u fs) fs' g e h =
        let s = two_steps (replaceTy ν bounded look u) (λ _. replaceFields ν bounded look fs) (field n) fs' e in
        rw (sym s.both) (all_append Q (opens s.first)
        (ty-occurs u s.first (and_right (held n) _ (and_left (held n && goodTy ν held q u) _ g)) s.gave (λ o m. h o
        (Memᴰ.append_left (opensFields fs) m)))
        (fields-occur fs s.second (and_right (held n && goodTy ν held q u) _ g) s.then (λ o m. h o (Memᴰ.append_right (opens u) m))))
