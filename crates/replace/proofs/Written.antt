-- Constraints and bindings that were written to a buffer are held there.
use Rattle.std.specs.Prelude.{◌≡◌, Bool, true, not, ◌&&◌, leb, eqb, length}
use Rattle.std.proofs.Math.Path.{refl}
use Rattle.std.proofs.Common.{sym, ap, ◌∙◌, arith, leb-true, zero-add}
use mathlib.Core.List.{List, [], ◌∷◌, ◌++◌, map}
use Prim.Native.Nat.{ℕ, ◌+◌, ◌*◌, ◌/◌, ◌≤◌}
use Rattle.std.proofs.Math.ListN.{length-append}
use Rattle.std.proofs.lemmas.List.Edits.{sets}
use Rattle.rules.specs.Base.{all, collect, sum_of}
use lib.IntN.{nat_abs}
use Rattle.rules.specs.Exponents.{frac, top, gcd, in_range, isZero, goodExp, goodStored}
use Rattle.rules.specs.Names.{table_of, is_held}
use Rattle.rules.specs.Trees.{
  free,
  base,
  ◌↑◌,
  Product,
  Ty,
  opened,
  basic,
  dim,
  fn,
  struct,
  list,
  Tys,
  nil,
  cons,
  Fields,
  noFields,
  field,
  Con,
  equal,
  isDim,
  is_scalar,
  hasField,
  Binding,
  ◌≔◌,
  Names,
  size,
  sizeCon,
  sizeBinding,
  orderAtom,
}
use Rattle.rules.specs.WellFormed.{goodOpen, goodFactor, goodProduct, goodTy, goodTys, goodFields, goodCon, goodBinding, rising, atomOf, fieldNames}
use Rattle.rules.specs.Writing.{Rec, words, writeProduct, writeTy, writeCon, writeBinding}
use Rattle.laws.specs.Lists.{and_left as both_left, and_right as both_right, Every}
use Rattle.laws.specs.Reading.{FitsProduct, Fits, FitsTys, FitsFields}
use Rattle.laws.proofs.Size.{size-ty, size-con, size-binding, set-length, bindings-length}
use Rattle.records.specs.Views.{from}
use Rattle.records.proofs.Buffers.{stored}
use Rattle.records.specs.Holds.{HoldsCon, HoldsBinding}
use Rattle.records.proofs.Held.{held, product-held, parted, shown}
use Rattle.records.specs.declared.View.TheVariants as view
use Rattle.types.specs.Binds.{IsBinds}
use Rattle.types.proofs.Binds.{HoldsBinds}
use Rattle.types.specs.Sets.{IsCons}
use Rattle.types.proofs.OnSets.{HoldsCons}
use Rattle.types.specs.Runs.{HoldsEach}
use Rattle.replace.specs.Well as well

-- ══ Well formed numerators fit a word ══

stored-fits : (n : lib.IntN.ℤ) (d : ℕ) → goodStored (frac n d) ≡ true → nat_abs n ≤ top
unfolding goodStored goodExp in_range
stored-fits n d h =
    let a = both_right (not (isZero (frac n d))) (goodExp (frac n d)) h in
    let b = both_left (in_range (frac n d)) (eqb (gcd (nat_abs n) d) 1) a in
    let c = both_left (leb (nat_abs n) top && leb 1 d) (leb d top) b in
    leb-true (nat_abs n) top (both_left (leb (nat_abs n) top) (leb 1 d) c)

module _ (ν : Names ℕ) (known : ℕ → Bool) (q : ℕ) where
  factors-fit : (p : Product ℕ) → all (goodFactor ν known q) p ≡ true → FitsProduct p
  unfolding all goodFactor
  factors-fit [] h = tt
  factors-fit (free o ↑ frac n d ∷ p) h = (
    stored-fits n d (both_right (goodOpen ν known q o) (goodStored (frac n d))
        (both_left (goodFactor ν known q (free o ↑ frac n d)) (all (goodFactor ν known q) p) h)),
    factors-fit p (both_right (goodFactor ν known q (free o ↑ frac n d)) (all (goodFactor ν known q) p) h),
  )
  factors-fit (base x ↑ frac n d ∷ p) h = (
    stored-fits n d (both_right (known x) (goodStored (frac n d))
        (both_left (goodFactor ν known q (base x ↑ frac n d)) (all (goodFactor ν known q) p) h)),
    factors-fit p (both_right (goodFactor ν known q (base x ↑ frac n d)) (all (goodFactor ν known q) p) h),
  )

  pub product-fits : (p : Product ℕ) → goodProduct ν known q p ≡ true → FitsProduct p
  unfolding goodProduct
  product-fits p h = factors-fit p (both_left (all (goodFactor ν known q) p) (rising (orderAtom ν) (map atomOf p))
      (both_left (all (goodFactor ν known q) p && rising (orderAtom ν) (map atomOf p)) (leb (length p) 64) h))

  mutual
    unfolding goodTy

    pub ty-fits : (t : Ty ℕ) → goodTy ν known q t ≡ true → Fits t
    ty-fits (opened o) h = tt
    ty-fits (basic b) h = tt
    ty-fits (dim p) h = product-fits p h
    ty-fits (fn ps r) h = (
      tys-fit ps (both_left (goodTys ν known q ps) (goodTy ν known q r) h),
      ty-fits r (both_right (goodTys ν known q ps) (goodTy ν known q r) h),
    )
    ty-fits (struct n as' fs) h =
        let a = both_left (known n && goodTys ν known q as' && goodFields ν known q fs) (rising ν.order (fieldNames fs)) h in (
          tys-fit as' (both_right (known n) (goodTys ν known q as') (both_left (known n && goodTys ν known q as') (goodFields ν known q fs) a)),
          fields_fit fs (both_right (known n && goodTys ν known q as') (goodFields ν known q fs) a),
        )
    ty-fits (list t) h = ty-fits t h

    tys-fit : (ts : Tys ℕ) → goodTys ν known q ts ≡ true → FitsTys ts
    tys-fit nil h = tt
    tys-fit (cons t ts) h = (
      ty-fits t (both_left (goodTy ν known q t) (goodTys ν known q ts) h),
      tys-fit ts (both_right (goodTy ν known q t) (goodTys ν known q ts) h),
    )

    fields_fit : (fs : Fields ℕ) → goodFields ν known q fs ≡ true → FitsFields fs
    fields_fit noFields h = tt
    fields_fit (field n t fs) h =
        let a = both_left (known n && goodTy ν known q t) (goodFields ν known q fs) h in
        (ty-fits t (both_right (known n) (goodTy ν known q t) a), fields_fit fs (both_right (known n && goodTy ν known q t) (goodFields ν known q fs) h))

-- ══ Written, so held ══

-- constraints, and bindings behind them
pub record Both (d : List ℕ) (cs : List (Con ℕ)) (bs : List (Binding ℕ)) : Type 0 where
  pub cons : IsCons d 0 (sum_of sizeCon cs) cs
  pub binds : IsBinds d (sum_of sizeCon cs) (sum_of sizeCon cs + sum_of sizeBinding bs) bs

module _ (pool table : List ℕ) where
  abbrev known' : ℕ → Bool
  known' = is_held (table_of pool table)

  module _ (s : List ℕ) where
    abbrev fitting : (t : Ty ℕ) → goodTy (well.names pool table) known' 4_294_967_296 t ≡ true → Fits t
    fitting = ty-fits (well.names pool table) known' 4_294_967_296

    pub con-held : (c : Con ℕ) (at : ℕ) (rest : List Rec) → well.GoodCon pool table c → from s at ≡ writeCon c ++ rest → HoldsCon s c at
    unfolding HoldsCon writeCon goodCon
    con-held (equal l r) at rest g e =
        let (x, y, z) = shown s at (sizeCon (equal l r)) view.Equal _ ((writeTy l ++ writeTy r) ++ rest) e refl tt in
        let (u, v) = parted s (writeTy l) (writeTy r) rest (at + 1) (size l) (size-ty l) (sym z) in (
          x,
          held s l (at + 1) (writeTy r ++ rest) (fitting l (both_left (goodTy _ _ _ l) (goodTy _ _ _ r) g)) u,
          held s r (at + 1 + size l) rest (fitting r (both_right (goodTy _ _ _ l) (goodTy _ _ _ r) g)) v,
          y,
        )
    con-held (isDim t) at rest g e =
        let (x, y, z) = shown s at (sizeCon (isDim t)) view.IsDim _ (writeTy t ++ rest) e refl tt in
        (x, held s t (at + 1) rest (fitting t g) (sym z), y)
    con-held (is_scalar p) at rest g e =
        let (x, y, z) = shown s at (sizeCon (is_scalar p)) view.IsScalar _ (writeProduct p ++ rest) e refl tt in
        (x, product-held s p (at + 1) rest (product-fits (well.names pool table) known' 4_294_967_296 p g) (sym z), y)
    con-held (hasField n l r) at rest g e =
        let (x, y, z) = shown s at (sizeCon (hasField n l r)) (view.HasField n) _ ((writeTy l ++ writeTy r) ++ rest) e refl tt in
        let (u, v) = parted s (writeTy l) (writeTy r) rest (at + 1) (size l) (size-ty l) (sym z) in
        let a = both_left (known' n && goodTy _ _ _ l) (goodTy _ _ _ r) g in (
          x,
          held s l (at + 1) (writeTy r ++ rest) (fitting l (both_right (known' n) (goodTy _ _ _ l) a)) u,
          held s r (at + 1 + size l) rest (fitting r (both_right (known' n && goodTy _ _ _ l) (goodTy _ _ _ r) g)) v,
          y,
        )

    pub binding-held : (x : Binding ℕ) (at : ℕ) (rest : List Rec) → well.GoodBinding pool table x → from s at ≡ writeBinding x ++ rest → HoldsBinding s x at
    unfolding HoldsBinding writeBinding goodBinding
    binding-held (n ≔ t) at rest g e =
        let (x, y, z) = shown s at (sizeBinding (n ≔ t)) (view.Binding n) _ (writeTy t ++ rest) e refl tt in
        (x, held s t (at + 1) rest (fitting t (both_right (known' n) (goodTy _ _ _ t) g)) (sym z), y)

    cons-held : (cs : List (Con ℕ)) (at : ℕ) (rest : List Rec) → Every (well.GoodCon pool table) cs → from s at ≡ collect writeCon cs ++ rest
        → HoldsCons s cs at
    unfolding HoldsEach collect
    cons-held [] at rest g e = tt
    cons-held (c ∷ cs) at rest g e =
        let (u, v) = parted s (writeCon c) (collect writeCon cs) rest at (sizeCon c) (size-con c) e in
        (con-held c at (collect writeCon cs ++ rest) g.0 u, cons-held cs (at + sizeCon c) rest g.1 v)

    pub binds-held : (bs : List (Binding ℕ)) (at : ℕ) (rest : List Rec) → Every (well.GoodBinding pool table) bs → from s at ≡ collect writeBinding bs ++ rest
        → HoldsBinds s bs at
    unfolding HoldsEach collect
    binds-held [] at rest g e = tt
    binds-held (b ∷ bs) at rest g e =
        let (u, v) = parted s (writeBinding b) (collect writeBinding bs) rest at (sizeBinding b) (size-binding b) e in
        (binding-held b at (collect writeBinding bs ++ rest) g.0 u, binds-held bs (at + sizeBinding b) rest g.1 v)

  -- well formed constraints that were written where there is room; and bindings
  pub written-cons : (d d' : List ℕ) (out : ℕ) (cs : List (Con ℕ)) → d' ≡ sets d (out * 4) (words (collect writeCon cs))
      → out + sum_of sizeCon cs ≤ length d / 4
      → Every (well.GoodCon pool table) cs → IsCons d' out (out + sum_of sizeCon cs) cs
  written-cons d d' out cs e le g =
      let n = set-length cs in
      let z : from d' out ≡ collect writeCon cs ++ from d (out + length (collect writeCon cs)) =
      ap (λ (l : List ℕ). from l out) e ∙ stored d (collect writeCon cs) out (omega (arith, n)) in
      record { held = cons-held d' cs out _ g z; ends = refl }

  pub written-binds : (d d' : List ℕ) (out : ℕ) (bs : List (Binding ℕ)) → d' ≡ sets d (out * 4) (words (collect writeBinding bs))
      → out + sum_of sizeBinding bs ≤ length d / 4
      → Every (well.GoodBinding pool table) bs → IsBinds d' out (out + sum_of sizeBinding bs) bs
  written-binds d d' out bs e le g =
      let n = bindings-length bs in
      let z : from d' out ≡ collect writeBinding bs ++ from d (out + length (collect writeBinding bs)) =
      ap (λ (l : List ℕ). from l out) e ∙ stored d (collect writeBinding bs) out (omega (arith, n)) in
      record { held = binds-held d' bs out _ g z; ends = refl }

  pub written-both : (d d' : List ℕ) (cs : List (Con ℕ)) (bs : List (Binding ℕ)) → d' ≡ sets d 0 (words (collect writeCon cs ++ collect writeBinding bs))
      → sum_of sizeCon cs + sum_of sizeBinding bs ≤ length d / 4 → Every (well.GoodCon pool table) cs → Every (well.GoodBinding pool table) bs → Both d' cs bs
  written-both d d' cs bs e le g h =
      let rs : List Rec = collect writeCon cs ++ collect writeBinding bs in
      let n : 0 + length rs ≤ length d / 4 = omega
      (arith, le, length-append (collect writeCon cs) (collect writeBinding bs), set-length cs, bindings-length bs) in
      let z : from d' 0 ≡ rs ++ from d (0 + length rs) = ap (λ (l : List ℕ). from l 0) e ∙ stored d rs 0 n in
      let (u, v) = parted d' (collect writeCon cs) (collect writeBinding bs) (from d (0 + length rs)) 0 (sum_of sizeCon cs) (set-length cs) z in
      record {
        cons = record { held = cons-held d' cs 0 _ g u; ends = omega arith };
        binds = record { held = binds-held d' bs (sum_of sizeCon cs) _ h (rw (zero-add (sum_of sizeCon cs)) at v); ends = refl };
      }
