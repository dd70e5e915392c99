-- The open names of what is well formed are well formed.
use Rattle.std.specs.Prelude.{◌≡◌, Bool, true, ◌&&◌, ℕ, leb, length}
use mathlib.Core.List.{List, [], ◌∷◌, map}
use Rattle.rules.specs.Base.{all, collect}
use Rattle.rules.specs.Exponents.{goodStored}
use Rattle.rules.specs.Trees.{
  Open,
  free,
  base,
  ◌↑◌,
  Product,
  Names,
  Ty,
  opened,
  basic,
  dim,
  fn,
  struct,
  list,
  Tys,
  nil,
  cons,
  Fields,
  noFields,
  field,
  Con,
  equal,
  isDim,
  is_scalar,
  hasField,
  Binding,
  ◌≔◌,
  orderAtom,
  openOfFactor,
  opens,
  opensTys,
  opensFields,
  opensCon,
}
use Rattle.rules.specs.WellFormed.{rising, atomOf, fieldNames, goodOpen, goodFactor, goodProduct, goodTy, goodTys, goodFields, goodCon, goodBinding}
use Rattle.rules.specs.Calls.{opensBinding}
use Rattle.laws.specs.Lists.{and_left, and_right, Every}
pub use Rattle.laws.proofs.Lists.{every_append, every-as}

module _ {N : Type 0} (ν : Names N) (held : N → Bool) (q : ℕ) where
  abbrev pub Known : Open N → Type 0
  Known o = goodOpen ν held q o ≡ true

  factors-known : (p : Product N) → all (goodFactor ν held q) p ≡ true → Every Known (collect openOfFactor p)
  unfolding all collect goodFactor
  factors-known [] h = tt
  factors-known (free o ↑ e ∷ p) h =
      let k = and_left (goodOpen ν held q o && goodStored e) (all (goodFactor ν held q) p) h in
      (and_left (goodOpen ν held q o) (goodStored e) k, factors-known p (and_right (goodOpen ν held q o && goodStored e) (all (goodFactor ν held q) p) h))
  factors-known (base n ↑ e ∷ p) h = factors-known p (and_right (held n && goodStored e) (all (goodFactor ν held q) p) h)

  pub product-known : (p : Product N) → goodProduct ν held q p ≡ true → Every Known (opens (dim p))
  unfolding goodProduct opens
  product-known p h =
      let f = all (goodFactor ν held q) p in
      let r = rising (orderAtom ν) (map atomOf p) in
      factors-known p (and_left f r (and_left (f && r) (leb (length p) 64) h))

  mutual
    unfolding goodTy opens

    pub ty-known : (t : Ty N) → goodTy ν held q t ≡ true → Every Known (opens t)
    ty-known (opened o) h = (h, tt)
    ty-known (basic b) h = tt
    ty-known (dim p) h = product-known p h
    ty-known (fn ps r) h =
        every_append Known (opensTys ps) (opens r) (tys-known ps (and_left (goodTys ν held q ps) (goodTy ν held q r) h))
        (ty-known r (and_right (goodTys ν held q ps) (goodTy ν held q r) h))
    ty-known (struct n as' fs) h =
        let a = goodTys ν held q as' in
        let f = goodFields ν held q fs in
        let k = and_left (held n && a && f) (rising ν.order (fieldNames fs)) h in
        every_append Known (opensTys as') (opensFields fs) (tys-known as' (and_right (held n) a (and_left (held n && a) f k)))
        (fields-known fs (and_right (held n && a) f k))
    ty-known (list t) h = ty-known t h

    tys-known : (ts : Tys N) → goodTys ν held q ts ≡ true → Every Known (opensTys ts)
    tys-known nil h = tt
    tys-known (cons t ts) h =
        every_append Known (opens t) (opensTys ts) (ty-known t (and_left (goodTy ν held q t) (goodTys ν held q ts) h))
        (tys-known ts (and_right (goodTy ν held q t) (goodTys ν held q ts) h))

    fields-known : (fs : Fields N) → goodFields ν held q fs ≡ true → Every Known (opensFields fs)
    fields-known noFields h = tt
    fields-known (field n t fs) h =
        let k = and_left (held n && goodTy ν held q t) (goodFields ν held q fs) h in
        every_append Known (opens t) (opensFields fs) (ty-known t (and_right (held n) (goodTy ν held q t) k))
        (fields-known fs (and_right (held n && goodTy ν held q t) (goodFields ν held q fs) h))

  pub con-known : (c : Con N) → goodCon ν held q c ≡ true → Every Known (opensCon c)
  unfolding goodCon opensCon
  con-known (equal l r) h = every_append Known (opens l) (opens r) (ty-known l (and_left (goodTy ν held q l) (goodTy ν held q r) h))
      (ty-known r (and_right (goodTy ν held q l) (goodTy ν held q r) h))
  con-known (isDim t) h = ty-known t h
  con-known (is_scalar p) h = product-known p h
  con-known (hasField n l r) h =
      let k = and_left (held n && goodTy ν held q l) (goodTy ν held q r) h in
      every_append Known (opens l) (opens r) (ty-known l (and_right (held n) (goodTy ν held q l) k))
      (ty-known r (and_right (held n && goodTy ν held q l) (goodTy ν held q r) h))

  pub binding-known : (b : Binding N) → goodBinding ν held q b ≡ true → Every Known (opensBinding b)
  unfolding goodBinding opensBinding goodOpen
  binding-known (x ≔ t) h = (and_left (held x) (goodTy ν held q t) h, ty-known t (and_right (held x) (goodTy ν held q t) h))

  pub set_known : (cs : List (Con N)) → all (goodCon ν held q) cs ≡ true → Every Known (collect opensCon cs)
  unfolding all collect
  set_known [] h = tt
  set_known (c ∷ cs) h =
      every_append Known (opensCon c) (collect opensCon cs) (con-known c (and_left (goodCon ν held q c) (all (goodCon ν held q) cs) h))
      (set_known cs (and_right (goodCon ν held q c) (all (goodCon ν held q) cs) h))
