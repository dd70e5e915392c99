-- Depth and size of a type whose open names were renamed.
use Rattle.std.specs.Prelude.{◌≡◌, Bool, true, ◌&&◌, ℕ, ◌≤◌}
use Rattle.std.proofs.Math.Path.{refl, sym}
use Rattle.std.proofs.Common.{ap, ◌∙◌}
use Rattle.std.proofs.Math.Option.{Option, none, some, get_or}
use mathlib.Core.List.Memᴰ
use native.Mathlib.Omega.{arith}
use Rattle.rules.specs.Base.{got, bounded, Limits, collect, and_then}
use Rattle.rules.specs.Trees.{
  Open,
  Product,
  Names,
  Ty,
  opened,
  basic,
  dim,
  fn,
  struct,
  list,
  Tys,
  nil,
  cons,
  Fields,
  noFields,
  field,
  orderAtom,
  openOfFactor,
  opens,
  opensTys,
  opensFields,
  size,
  sizeTys,
  sizeFields,
  depth,
  depthTys,
  depthFields,
}
use Rattle.rules.specs.Products.{single}
use Rattle.rules.specs.Plain.{plain, plainDim, plainTys, plainFields}
use Rattle.rules.specs.Replacing.{Look, replaceProduct, replaceDim, replaceTy, replaceTys, replaceFields}
use Rattle.rules.specs.Schemes.{renamed}
use Rattle.rules.specs.WellFormed.{goodProduct, goodTy, goodTys, goodFields}
use Rattle.laws.specs.Order.{Lawful, Tells}
use Rattle.laws.specs.Lists.{and_left, and_right, All}
use Rattle.laws.proofs.Lists.{one-step, two_steps, some≢none}
use Rattle.laws.specs.GoodProducts.{goodAtom}
use Rattle.schemes_renaming.proofs.Products.{Renames, product-renamed}

-- ══ Names put in for names leave the nesting as it is ══

module _ {N : Type 0} (ν : Names N) (l : Limits) (look : Look N) (flat : (o : Open N) (t : Ty N) → look o ≡ some t → depth t ≡ 1) where
  name-deep : (o : Open N) (t u : Ty N) → depth t ≡ 1 → get_or (look o) t ≡ u → depth u ≡ depth t
  name-deep o t u d e = go (look o) refl
    where
      go : (s : Option (Ty N)) → look o ≡ s → depth u ≡ depth t
      go none i = let z : t ≡ u = rw i at e in ap depth (sym z)
      go (some w) i = let z : w ≡ u = rw i at e in ap depth (sym z) ∙ flat o w i ∙ sym d

  dim-deep : (s : Option (Open N)) (p : Product N) (u : Ty N) → replaceDim ν l look s p ≡ got u → depth u ≡ 1
  unfolding replaceDim depth
  dim-deep none p u e = let r = one-step (replaceProduct ν l look p) dim u e in rw (sym r.is)
  dim-deep (some o) p u e = name-deep o (dim p) u refl (cc)

  mutual
    unfolding replaceTy depth

    pub ty-deep : (t u : Ty N) → replaceTy ν l look t ≡ got u → depth u ≡ depth t
    ty-deep (opened o) u e = name-deep o (opened o) u refl (cc)
    ty-deep (basic b) u e = let z : basic b ≡ u = cc in rw (sym z)
    ty-deep (dim p) u e = dim-deep (single p) p u e
    ty-deep (fn ps r) u e =
        let s = two_steps (replaceTys ν l look ps) (λ _. replaceTy ν l look r) fn u e in
        let a = tys-deep ps s.first s.gave in
        let b = ty-deep r s.second s.then in
        rw (sym s.both, a, b)
    ty-deep (struct n as' fs) u e =
        let s = two_steps (replaceTys ν l look as') (λ _. replaceFields ν l look fs) (struct n) u e in
        let a = tys-deep as' s.first s.gave in
        let b = fields-deep fs s.second s.then in
        rw (sym s.both, a, b)
    ty-deep (list t) u e = let s = one-step (replaceTy ν l look t) list u e in let a = ty-deep t s.value s.gave in rw (sym s.is, a)

    tys-deep : (ts us : Tys N) → replaceTys ν l look ts ≡ got us → depthTys us ≡ depthTys ts
    tys-deep nil us e = let z : nil ≡ us = cc in rw (sym z)
    tys-deep (cons t ts) us e =
        let s = two_steps (replaceTy ν l look t) (λ _. replaceTys ν l look ts) cons us e in
        let a = ty-deep t s.first s.gave in
        let b = tys-deep ts s.second s.then in
        rw (sym s.both, a, b)

    fields-deep : (fs gs : Fields N) → replaceFields ν l look fs ≡ got gs → depthFields gs ≡ depthFields fs
    fields-deep noFields gs e = let z : noFields ≡ gs = cc in rw (sym z)
    fields-deep (field n t fs) gs e =
        let s = two_steps (replaceTy ν l look t) (λ _. replaceFields ν l look fs) (field n) gs e in
        let a = ty-deep t s.first s.gave in
        let b = fields-deep fs s.second s.then in
        rw (sym s.both, a, b)

-- by a renaming
module _ {N : Type 0} (ν : Names N) (l : Limits) (f : Open N → Option (Open N)) where
  renamed-flat : (o : Open N) (t : Ty N) → renamed f o ≡ some t → depth t ≡ 1
  unfolding depth
  renamed-flat o t e = go (f o) refl e
    where
      go : (s : Option (Open N)) → f o ≡ s → and_then s (λ u. some (opened u)) ≡ some t → depth t ≡ 1
      go none i k = absurd (some≢none (sym k))
      go (some u) i k = let z : opened u ≡ t = cc in rw (sym z)

  pub renamed-deep : (t u : Ty N) → replaceTy ν l (renamed f) t ≡ got u → depth u ≡ depth t
  renamed-deep t u e = ty-deep ν l (renamed f) renamed-flat t u e

-- ══ Records ══

module _ {N : Type 0} (ν : Names N) (law : Lawful (orderAtom ν)) (held : N → Bool) (q : ℕ)
    (tells : Tells (λ a. goodAtom ν held q a ≡ true) (orderAtom ν)) (P : Open N → Type 0) (f : Open N → Option (Open N)) (h : Renames ν held q P f)
  where
    -- a type has a record at the least
    some-record : (t : Ty N) → 1 ≤ size t
    unfolding size
    some-record (opened o) = omega arith
    some-record (basic b) = omega arith
    some-record (dim p) = omega arith
    some-record (fn ps r) = omega arith
    some-record (struct n as' fs) = omega arith
    some-record (list t) = omega arith

    dim-size : (s : Option (Open N)) (p : Product N) (u : Ty N) → goodProduct ν held q p ≡ true → All P (collect openOfFactor p)
        → replaceDim ν bounded (renamed f) s p ≡ got u → size (plainDim s p) ≤ size u
    unfolding replaceDim plainDim size
    dim-size (some o) p u g k e = some-record u
    dim-size none p u g k e =
        let (r, m) = product-renamed ν law held q tells P f h p g k in
        let z : got (dim r) ≡ got u = sym (rw m.is) ∙ e in
        let y : dim r ≡ u = cc in
        rw (sym y) (let n = m.long in omega arith)

    mutual
      unfolding replaceTy opens goodTy plain size

      -- with single variables read as variables it has no more records than renamed
      pub plain_size : (t u : Ty N) → goodTy ν held q t ≡ true → All P (opens t) → replaceTy ν bounded (renamed f) t ≡ got u → size (plain t true) ≤ size u
      plain_size (opened o) u g k e = some-record u
      plain_size (basic b) u g k e = some-record u
      plain_size (dim p) u g k e = dim-size (single p) p u g k e
      plain_size (fn ps r) u g k e =
          let s = two_steps (replaceTys ν bounded (renamed f) ps) (λ _. replaceTy ν bounded (renamed f) r) fn u e in
          let a = plain-sizes ps s.first (and_left (goodTys ν held q ps) _ g) (λ o m. k o (Memᴰ.append_left (opens r) m)) s.gave in
          let b = plain_size r s.second (and_right (goodTys ν held q ps) _ g) (λ o m. k o (Memᴰ.append_right (opensTys ps) m)) s.then in
          rw (sym s.both) (omega arith)
      plain_size (struct n as' fs) u g k e =
          let s = two_steps (replaceTys ν bounded (renamed f) as') (λ _. replaceFields ν bounded (renamed f) fs) (struct n) u e in
          let ga = and_left (held n && goodTys ν held q as' && goodFields ν held q fs) _ g in
          let a = plain-sizes as' s.first (and_right (held n) _ (and_left (held n && goodTys ν held q as') _ ga))
          (λ o m. k o (Memᴰ.append_left (opensFields fs) m)) s.gave in
          let b = plain-field-sizes fs s.second (and_right (held n && goodTys ν held q as') _ ga) (λ o m. k o (Memᴰ.append_right (opensTys as') m)) s.then in
          rw (sym s.both) (omega arith)
      plain_size (list t) u g k e =
          let s = one-step (replaceTy ν bounded (renamed f) t) list u e in
          let a = plain_size t s.value g k s.gave in
          rw (sym s.is) (omega arith)

      plain-sizes : (ts us : Tys N) → goodTys ν held q ts ≡ true → All P (opensTys ts) → replaceTys ν bounded (renamed f) ts ≡ got us
          → sizeTys (plainTys ts true) ≤ sizeTys us
      plain-sizes nil us g k e = omega arith
      plain-sizes (cons t ts) us g k e =
          let s = two_steps (replaceTy ν bounded (renamed f) t) (λ _. replaceTys ν bounded (renamed f) ts) cons us e in
          let a = plain_size t s.first (and_left (goodTy ν held q t) _ g) (λ o m. k o (Memᴰ.append_left (opensTys ts) m)) s.gave in
          let b = plain-sizes ts s.second (and_right (goodTy ν held q t) _ g) (λ o m. k o (Memᴰ.append_right (opens t) m)) s.then in
          rw (sym s.both) (omega arith)

      plain-field-sizes : (fs gs : Fields N) → goodFields ν held q fs ≡ true → All P (opensFields fs) → replaceFields ν bounded (renamed f) fs ≡ got gs
          → sizeFields (plainFields fs true) ≤ sizeFields gs
      plain-field-sizes noFields gs g k e = omega arith
      plain-field-sizes (field n t fs) gs g k e =
          let s = two_steps (replaceTy ν bounded (renamed f) t) (λ _. replaceFields ν bounded (renamed f) fs) (field n) gs e in
          let a = plain_size t s.first (and_right (held n) _ (and_left (held n && goodTy ν held q t) _ g))
          (λ o m. k o (Memᴰ.append_left (opensFields fs) m)) s.gave in
          let b = plain-field-sizes fs s.second (and_right (held n && goodTy ν held q t) _ g) (λ o m. k o (Memᴰ.append_right (opens t) m)) s.then in
          rw (sym s.both) (omega arith)
