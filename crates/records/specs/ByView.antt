-- What a place that holds a tree says, case by case, and that it lies within.
use Rattle.std.specs.Prelude.{◌≡◌, ℕ, suc, ◌+◌, ◌/◌, ◌≤◌, ◌<◌}
use Rattle.std.proofs.Math.Path.{refl, subst}
use Rattle.std.proofs.Common.{sym, ◌∙◌}
use mathlib.Core.List.{List, [], ◌∷◌}
use native.Mathlib.Omega.{arith}
use Rattle.std.proofs.Math.ListN.{length}
use Rattle.rules.specs.Exponents.{frac}
use Rattle.rules.specs.Trees as tree
use Rattle.rules.specs.Trees.{
  Factor,
  ◌↑◌,
  Product,
  Ty,
  opened,
  basic,
  dim,
  fn,
  struct,
  list,
  Tys,
  nil,
  cons,
  Fields,
  noFields,
  field,
  Con,
  equal,
  isDim,
  is_scalar,
  hasField,
  Binding,
  size,
  sizeTys,
  sizeFields,
}
use Rattle.records.specs.Views.{viewAt}
use Rattle.records.specs.Places.{seen-in}
use Rattle.records.specs.Holds.{openOf, viewOpen, HoldsFactors, HoldsProduct, Holds, HoldsTys, HoldsFields, BodyCon}
use Rattle.records.specs.declared.View.{View}
use Rattle.records.specs.declared.View.TheVariants as view

-- there and back
pub open-back : (o : tree.Open ℕ) → openOf (viewOpen o) ≡ o
open-back (tree.var x) = refl
open-back (tree.quant i) = refl
open-back (tree.par x) = refl

module _ (s : List ℕ) where
  abbrev pub ArmsCon : (Con ℕ → Type 0) → ℕ → View → Type 0
  ArmsCon P at (view.Opened o) = Unit {0}
  ArmsCon P at (view.Basic b) = Unit {0}
  ArmsCon P at (view.Dim n) = Unit {0}
  ArmsCon P at (view.Function n) = Unit {0}
  ArmsCon P at (view.Struct x n m) = Unit {0}
  ArmsCon P at view.List = Unit {0}
  ArmsCon P at (view.Field x) = Unit {0}
  ArmsCon P at (view.Factor f n d) = Unit {0}
  ArmsCon P at view.Equal = (l r : Ty ℕ) → Holds s l (at + 1) → Holds s r (at + 1 + size l) → P (equal l r)
  ArmsCon P at view.IsDim = (t : Ty ℕ) → Holds s t (at + 1) → P (isDim t)
  ArmsCon P at view.IsScalar = (p : Product ℕ) → HoldsProduct s p (at + 1) → P (is_scalar p)
  ArmsCon P at (view.HasField x) = (l r : Ty ℕ) → Holds s l (at + 1) → Holds s r (at + 1 + size l) → P (hasField x l r)
  ArmsCon P at (view.Binding x) = Unit {0}
  ArmsCon P at (view.Bound o) = Unit {0}
  ArmsCon P at (view.Scheme n) = Unit {0}
  ArmsCon P at view.Concrete = Unit {0}
  ArmsCon P at view.Bad = Unit {0}

  pub con-by-body : (P : Con ℕ → Type 0) (c : Con ℕ) (at : ℕ) {v : View} → BodyCon s c at → viewAt s at ≡ v → ArmsCon P at v → P c
  unfolding BodyCon
  con-by-body P (equal l r) at h e a = subst (ArmsCon P at) (sym e ∙ h.0) a l r h.1 h.2
  con-by-body P (isDim t) at h e a = subst (ArmsCon P at) (sym e ∙ h.0) a t h.1
  con-by-body P (is_scalar p) at h e a = subst (ArmsCon P at) (sym e ∙ h.0) a p h.1
  con-by-body P (hasField x l r) at h e a = subst (ArmsCon P at) (sym e ∙ h.0) a l r h.1 h.2

  pub factors-in : (p : Product ℕ) (at : ℕ) → at ≤ length s / 4 → HoldsFactors s p at → at + length p ≤ length s / 4
  unfolding HoldsFactors
  factors-in [] at le h = omega arith
  factors-in (a ↑ frac n d ∷ p) at le h =
      let k : at < length s / 4 = seen-in s at h.0.0 tt in
      omega (arith, factors-in p (at + 1) (omega arith) h.1)

  pub product-in : (p : Product ℕ) (at : ℕ) → HoldsProduct s p at → at + suc (length p) ≤ length s / 4
  unfolding HoldsProduct
  product-in p at h =
      let k : at < length s / 4 = seen-in s at h.0 tt in
      omega (arith, factors-in p (at + 1) (omega arith) h.1)

  mutual
    unfolding Holds HoldsProduct size

    pub ends-in : (t : Ty ℕ) (at : ℕ) → Holds s t at → at + size t ≤ length s / 4
    ends-in (opened o) at h = omega (arith, seen-in s at h.0 tt)
    ends-in (basic b) at h = omega (arith, seen-in s at h.0 tt)
    ends-in (dim p) at h = product-in p at h
    ends-in (fn ps r) at h = omega (arith, ends-in r (at + 1 + sizeTys ps) h.2)
    ends-in (struct n as' fs) at h =
        let k : at < length s / 4 = seen-in s at h.0 tt in
        omega (arith, fields_in fs (at + 1 + sizeTys as') (tys-in as' (at + 1) (omega arith) h.1) h.2)
    ends-in (list t) at h = omega (arith, ends-in t (at + 1) h.1)

    pub tys-in : (ts : Tys ℕ) (at : ℕ) → at ≤ length s / 4 → HoldsTys s ts at → at + sizeTys ts ≤ length s / 4
    tys-in nil at le h = omega arith
    tys-in (cons t ts) at le h = omega (arith, tys-in ts (at + size t) (ends-in t at h.0) h.1)

    pub fields_in : (fs : Fields ℕ) (at : ℕ) → at ≤ length s / 4 → HoldsFields s fs at → at + sizeFields fs ≤ length s / 4
    fields_in noFields at le h = omega arith
    fields_in (field n t fs) at le h =
        let k : at + 1 + size t ≤ length s / 4 = ends-in t (at + 1) h.1 in
        omega (arith, fields_in fs (at + 1 + size t) k h.2)
