-- A type none of whose open names is bound stays as it is.
use Rattle.std.specs.Prelude.{◌≡◌, Bool, true, false}
use Rattle.std.proofs.Math.Path.{refl, ap}
use Rattle.std.proofs.Math.Option.{Option, none, some}
use mathlib.Core.List.{List, [], ◌∷◌, Memᴰ}
use Rattle.rules.specs.Base.{Got, got, Limits, each, collect, only_if, is_yes}
use Rattle.rules.specs.Exponents.{Exp-dec, one}
use Rattle.rules.specs.Trees.{
  Open,
  var,
  quant,
  par,
  free,
  base,
  ◌↑◌,
  Product,
  Names,
  Ty,
  opened,
  basic,
  dim,
  fn,
  struct,
  list,
  Tys,
  nil,
  cons,
  Fields,
  noFields,
  field,
  opens,
  opensTys,
  opensFields,
  openOfFactor,
  Con,
  equal,
  isDim,
  is_scalar,
  hasField,
  opensCon,
  ◌≔◌,
}
use Rattle.rules.specs.Products.{single}
use Rattle.rules.specs.Replacing.{
  Look,
  replaceFactors,
  replaceProduct,
  replaceDim,
  replaceTy,
  replaceTys,
  replaceFields,
  replaceCon,
  replaceBinding,
  find,
  bindings,
}
use Rattle.laws.specs.Lists.{Every, all-every}
use Rattle.laws.proofs.Lists.{every-left, every-right, is-no}

module _ {N : Type 0} (look : Look N) where
  -- none of the open names is bound
  abbrev pub Unbound : List (Open N) → Type 0
  Unbound os = Every (λ o. look o ≡ none) os

  only : (b : Bool) (o u : Open N) → look o ≡ none → only_if b o ≡ some u → look u ≡ none
  only true o u h e = cc
  only false o u h e = cc

  unbound-single : (p : Product N) (o : Open N) → Unbound (opens (dim p)) → single p ≡ some o → look o ≡ none
  unfolding opens single
  unbound-single [] o h e = cc
  unbound-single (a ↑ e ∷ f ∷ p) o h e' = cc
  unbound-single (free (var x) ↑ e ∷ []) o h e' = only (is_yes (Exp-dec e one)) (var x) o h.0 e'
  unbound-single (free (quant i) ↑ e ∷ []) o h e' = only (is_yes (Exp-dec e one)) (quant i) o h.0 e'
  unbound-single (free (par x) ↑ e ∷ []) o h e' = cc
  unbound-single (base n ↑ e ∷ []) o h e' = cc

module _ {N : Type 0} (ν : Names N) (l : Limits) (look : Look N) where
  pub factors-same : (p acc : Product N) → Unbound look (collect openOfFactor p) → replaceFactors ν l look p acc ≡ got acc
  unfolding replaceFactors collect
  factors-same [] acc h = refl
  factors-same (base n ↑ e ∷ p) acc h = factors-same p acc h
  factors-same (free o ↑ e ∷ p) acc h = rw (h.0, replaceFactors) (factors-same p acc h.1)

  dim-same : (p : Product N) (s : Option (Open N)) → single p ≡ s → Unbound look (opens (dim p)) → replaceDim ν l look s p ≡ got (dim p)
  unfolding replaceDim replaceProduct opens
  dim-same p none e h = rw (factors-same p p h)
  dim-same p (some o) e h = rw (unbound-single look p o h e)

  mutual
    unfolding replaceTy opens

    pub ty_same : (t : Ty N) → Unbound look (opens t) → replaceTy ν l look t ≡ got t
    ty_same (opened o) h = rw h.0
    ty_same (basic b) h = refl
    ty_same (dim p) h = dim-same p (single p) refl h
    ty_same (fn ps r) h = rw (
      tys_same ps (every-left (λ o. look o ≡ none) (opensTys ps) (opens r) h),
      ty_same r (every-right (λ o. look o ≡ none) (opensTys ps) (opens r) h),
    )
    ty_same (struct n as' fs) h = rw (
      tys_same as' (every-left (λ o. look o ≡ none) (opensTys as') (opensFields fs) h),
      fields-same fs (every-right (λ o. look o ≡ none) (opensTys as') (opensFields fs) h),
    )
    ty_same (list t) h = rw (ty_same t h)

    pub tys_same : (ts : Tys N) → Unbound look (opensTys ts) → replaceTys ν l look ts ≡ got ts
    tys_same nil h = refl
    tys_same (cons t ts) h = rw (
      ty_same t (every-left (λ o. look o ≡ none) (opens t) (opensTys ts) h),
      tys_same ts (every-right (λ o. look o ≡ none) (opens t) (opensTys ts) h),
    )

    pub fields-same : (fs : Fields N) → Unbound look (opensFields fs) → replaceFields ν l look fs ≡ got fs
    fields-same noFields h = refl
    fields-same (field n t fs) h = rw (
      ty_same t (every-left (λ o. look o ≡ none) (opens t) (opensFields fs) h),
      fields-same fs (every-right (λ o. look o ≡ none) (opens t) (opensFields fs) h),
    )

  -- constraints and bindings, the product of an equal-scalar included
  pub con_same : (c : Con N) → Unbound look (opensCon c) → replaceCon ν l look c ≡ got c
  unfolding replaceCon replaceProduct opensCon opens
  con_same (equal t u) h = rw (
    ty_same t (every-left (λ o. look o ≡ none) (opens t) (opens u) h),
    ty_same u (every-right (λ o. look o ≡ none) (opens t) (opens u) h),
  )
  con_same (isDim t) h = rw (ty_same t h)
  con_same (is_scalar p) h = rw (factors-same p p h)
  con_same (hasField n t u) h = rw (
    ty_same t (every-left (λ o. look o ≡ none) (opens t) (opens u) h),
    ty_same u (every-right (λ o. look o ≡ none) (opens t) (opens u) h),
  )

  pub binding_same : (x : N) (t : Ty N) → Unbound look (opens t) → replaceBinding ν l look (x ≔ t) ≡ got (x ≔ t)
  unfolding replaceBinding
  binding_same x t h = rw (ty_same t h)

  -- a closed type is never changed
  pub closed_same : (t : Ty N) → opens t ≡ [] → replaceTy ν l look t ≡ got t
  closed_same t e = ty_same t (rw e tt)

-- a variable that doesn't occur is not bound by a binding of it
module _ {N : Type 0} (ν : Names N) (x : N) (u : Ty N) where
  unbound : (o : Open N) → (o ≡ var x → ⊥) → bindings ν (x ≔ u ∷ []) o ≡ none
  unfolding bindings find
  unbound (var y) h = rw (is-no (ν.same y x) (λ e. h (ap var e)), bindings, find)
  unbound (quant i) h = refl
  unbound (par y) h = refl

  -- so what has no such open name stays under it
  pub absent : (os : List (Open N)) → (Memᴰ (var x) os → ⊥) → Unbound (bindings ν (x ≔ u ∷ [])) os
  absent os h = all-every (λ o. bindings ν (x ≔ u ∷ []) o ≡ none) os (λ o m. unbound o (λ e. h (rw e at m)))

-- where each stays, the list stays
pub each_same : {A : Type 0} (f : A → Got A) (xs : List A) → Every (λ a. f a ≡ got a) xs → each f xs ≡ got xs
unfolding each
each_same f [] h = refl
each_same f (x ∷ xs) h = rw (h.0, each_same f xs h.1)
