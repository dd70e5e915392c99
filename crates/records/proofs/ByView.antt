-- What follows from the definitions of specs/ByView: what a place that holds a tree says, case by case, and that it lies within.
use Rattle.std.specs.Prelude.{◌≡◌, ℕ, ◌+◌, ◌/◌, ◌≤◌, ◌<◌}
use Rattle.std.proofs.Math.Path.{refl, subst}
use Rattle.std.proofs.Common.{sym, ap, ◌∙◌}
use mathlib.Core.List.{List}
use native.Mathlib.Omega.{arith}
use Rattle.std.proofs.Math.ListN.{length}
use Rattle.rules.specs.Exponents.{frac}
use Rattle.rules.specs.Trees as tree
use Rattle.rules.specs.Trees.{
  Factor,
  ◌↑◌,
  Product,
  Ty,
  opened,
  basic,
  dim,
  fn,
  struct,
  list,
  Tys,
  Fields,
  Con,
  equal,
  isDim,
  is_scalar,
  hasField,
  Binding,
  ◌≔◌,
  size,
  sizeTys,
  sizeCon,
  sizeBinding,
  count,
  countFields,
}
use Rattle.rules.specs.Writing.{twos, signed}
use Rattle.records.specs.Views.{viewAt}
use Rattle.records.specs.Places.{seen-in}
use Rattle.records.specs.Holds.{
  openOf,
  atomOf,
  viewAtom,
  basicOf,
  viewBasic,
  HoldsFactor,
  HoldsFactors,
  HoldsProduct,
  Holds,
  HoldsTys,
  HoldsFields,
  HoldsCon,
  HoldsBinding,
  BodyCon,
  BodyBinding,
  con-body,
  binding-body,
}
use Rattle.records.proofs.Holds.{Body, holds-body}
use Rattle.records.specs.declared.View.{View}
use Rattle.records.specs.declared.View.TheVariants as view
use Rattle.records.specs.ByView.{open-back, ArmsCon, con-by-body, factors-in, product-in, ends-in, tys-in, fields_in}

pub atom-back : (a : tree.Atom ℕ) → atomOf (viewAtom a) ≡ a
atom-back (tree.free o) = ap tree.free (open-back o)
atom-back (tree.base x) = refl

pub basic-back : (b : tree.Basic) → basicOf (viewBasic b) ≡ b
basic-back tree.boolean = refl
basic-back tree.string = refl
basic-back tree.datetime = refl

pub size-pos : (t : Ty ℕ) → 1 ≤ size t
unfolding size
size-pos (opened o) = omega arith
size-pos (basic b) = omega arith
size-pos (dim p) = omega arith
size-pos (fn ps r) = omega arith
size-pos (struct n as' fs) = omega arith
size-pos (list t) = omega arith

module _ (s : List ℕ) where
  -- what is left to show of a type, once the record at its place was seen to say v
  abbrev pub Arms : (Ty ℕ → Type 0) → ℕ → View → Type 0
  Arms P at (view.Opened o) = P (opened (openOf o))
  Arms P at (view.Basic b) = P (basic (basicOf b))
  Arms P at (view.Dim n) = (p : Product ℕ) → length p ≡ n → HoldsFactors s p (at + 1) → P (dim p)
  Arms P at (view.Function n) = (ps : Tys ℕ) (r : Ty ℕ) → count ps ≡ n → HoldsTys s ps (at + 1) → Holds s r (at + 1 + sizeTys ps) → P (fn ps r)
  Arms P at (view.Struct x n m) = (as' : Tys ℕ) (fs : Fields ℕ) → count as' ≡ n → countFields fs ≡ m → HoldsTys s as' (at + 1)
      → HoldsFields s fs (at + 1 + sizeTys as') → P (struct x as' fs)
  Arms P at view.List = (t : Ty ℕ) → Holds s t (at + 1) → P (list t)
  Arms P at (view.Field x) = Unit {0}
  Arms P at (view.Factor f n d) = Unit {0}
  Arms P at view.Equal = Unit {0}
  Arms P at view.IsDim = Unit {0}
  Arms P at view.IsScalar = Unit {0}
  Arms P at (view.HasField x) = Unit {0}
  Arms P at (view.Binding x) = Unit {0}
  Arms P at (view.Bound o) = Unit {0}
  Arms P at (view.Scheme n) = Unit {0}
  Arms P at view.Concrete = Unit {0}
  Arms P at view.Bad = Unit {0}

  -- each arm of a match on the view gets its tree
  pub by-body : (P : Ty ℕ → Type 0) (t : Ty ℕ) (at : ℕ) {v : View} → Body s t at → viewAt s at ≡ v → Arms P at v → P t
  unfolding Body
  by-body P (opened o) at h e a = subst (λ (x : tree.Open ℕ). P (opened x)) (open-back o) (subst (Arms P at) (sym e ∙ h) a)
  by-body P (basic b) at h e a = subst (λ (x : tree.Basic). P (basic x)) (basic-back b) (subst (Arms P at) (sym e ∙ h) a)
  by-body P (dim p) at h e a = subst (Arms P at) (sym e ∙ h.0) a p refl h.1
  by-body P (fn ps r) at h e a = subst (Arms P at) (sym e ∙ h.0) a ps r refl h.1 h.2
  by-body P (struct n as' fs) at h e a = subst (Arms P at) (sym e ∙ h.0) a as' fs refl refl h.1 h.2
  by-body P (list t) at h e a = subst (Arms P at) (sym e ∙ h.0) a t h.1

  pub by-view : (P : Ty ℕ → Type 0) (t : Ty ℕ) (at : ℕ) {v : View} → Holds s t at → viewAt s at ≡ v → Arms P at v → P t
  by-view P t at h e a = by-body P t at (holds-body s t at h) e a

  -- the same of a factor, a product, a field, a constraint, a binding, a bound, a scheme
  abbrev pub ArmsFactor : (Factor ℕ → Type 0) → View → Type 0
  ArmsFactor P (view.Opened o) = Unit {0}
  ArmsFactor P (view.Basic b) = Unit {0}
  ArmsFactor P (view.Dim n) = Unit {0}
  ArmsFactor P (view.Function n) = Unit {0}
  ArmsFactor P (view.Struct x n m) = Unit {0}
  ArmsFactor P view.List = Unit {0}
  ArmsFactor P (view.Field x) = Unit {0}
  ArmsFactor P (view.Factor f n d) = P (atomOf f ↑ frac (signed n) d)
  ArmsFactor P view.Equal = Unit {0}
  ArmsFactor P view.IsDim = Unit {0}
  ArmsFactor P view.IsScalar = Unit {0}
  ArmsFactor P (view.HasField x) = Unit {0}
  ArmsFactor P (view.Binding x) = Unit {0}
  ArmsFactor P (view.Bound o) = Unit {0}
  ArmsFactor P (view.Scheme n) = Unit {0}
  ArmsFactor P view.Concrete = Unit {0}
  ArmsFactor P view.Bad = Unit {0}

  pub factor-by-view : (P : Factor ℕ → Type 0) (f : Factor ℕ) (at : ℕ) {v : View} → HoldsFactor s f at → viewAt s at ≡ v → ArmsFactor P v → P f
  factor-by-view P (a ↑ frac n d) at h e x =
      let y : P (atomOf (viewAtom a) ↑ frac (signed (twos n)) d) = subst (ArmsFactor P) (sym e ∙ h.0) x in
      rw (atom-back a, h.1) at y

  pub con-by-view : (P : Con ℕ → Type 0) (c : Con ℕ) (at : ℕ) {v : View} → HoldsCon s c at → viewAt s at ≡ v → ArmsCon s P at v → P c
  con-by-view P c at h e a = con-by-body s P c at (con-body s c at h) e a

  -- ══ A tree that is held lies within ══

  pub in_reach : (t : Ty ℕ) (at : ℕ) → Holds s t at → at < length s / 4
  unfolding Holds HoldsProduct
  in_reach (opened o) at h = seen-in s at h.0 tt
  in_reach (basic b) at h = seen-in s at h.0 tt
  in_reach (dim p) at h = seen-in s at h.0 tt
  in_reach (fn ps r) at h = seen-in s at h.0 tt
  in_reach (struct n as' fs) at h = seen-in s at h.0 tt
  in_reach (list t) at h = seen-in s at h.0 tt

  pub body-in : (t : Ty ℕ) (at : ℕ) → Body s t at → at + size t ≤ length s / 4
  unfolding Body size
  body-in (opened o) at h = omega (arith, seen-in s at h tt)
  body-in (basic b) at h = omega (arith, seen-in s at h tt)
  body-in (dim p) at h =
      let k : at < length s / 4 = seen-in s at h.0 tt in
      omega (arith, factors-in s p (at + 1) (omega arith) h.1)
  body-in (fn ps r) at h = omega (arith, ends-in s r (at + 1 + sizeTys ps) h.2)
  body-in (struct n as' fs) at h =
      let k : at < length s / 4 = seen-in s at h.0 tt in
      omega (arith, fields_in s fs (at + 1 + sizeTys as') (tys-in s as' (at + 1) (omega arith) h.1) h.2)
  body-in (list t) at h = omega (arith, ends-in s t (at + 1) h.1)

  pub con-body-in : (c : Con ℕ) (at : ℕ) → BodyCon s c at → at + sizeCon c ≤ length s / 4
  unfolding BodyCon sizeCon size
  con-body-in (equal l r) at h = omega (arith, ends-in s r (at + 1 + size l) h.2)
  con-body-in (isDim t) at h = omega (arith, ends-in s t (at + 1) h.1)
  con-body-in (is_scalar p) at h = omega (arith, product-in s p (at + 1) h.1)
  con-body-in (hasField n l r) at h = omega (arith, ends-in s r (at + 1 + size l) h.2)

  pub con-in : (c : Con ℕ) (at : ℕ) → HoldsCon s c at → at + sizeCon c ≤ length s / 4
  con-in c at h = con-body-in c at (con-body s c at h)

  pub binding-body-in : (b : Binding ℕ) (at : ℕ) → BodyBinding s b at → at + sizeBinding b ≤ length s / 4
  unfolding BodyBinding sizeBinding
  binding-body-in (x ≔ t) at h = omega (arith, ends-in s t (at + 1) h.1)

  pub binding-in : (b : Binding ℕ) (at : ℕ) → HoldsBinding s b at → at + sizeBinding b ≤ length s / 4
  binding-in b at h = binding-body-in b at (binding-body s b at h)
