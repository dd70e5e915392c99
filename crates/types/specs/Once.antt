-- A place holds one tree at most, in one way.
use Rattle.std.specs.Prelude.{◌≡◌, List, [], ◌∷◌, ℕ, ◌+◌, length}
use mathlib.Core.HLevel.{Σ_prop_path, Unit-prop, hedberg}
use mathlib.Core.Sum.{⊎_set}
use Rattle.std.proofs.Math.Decide.{ℕ_discrete}
use Rattle.std.proofs.Common.{sym, ◌∙◌}
use Rattle.rules.specs.Exponents.{frac}
use Rattle.rules.specs.Trees.{
  ◌↑◌,
  Product,
  Ty,
  opened,
  basic,
  dim,
  fn,
  struct,
  list,
  Tys,
  nil,
  cons,
  Fields,
  noFields,
  field,
  Con,
  equal,
  isDim,
  is_scalar,
  hasField,
  size,
  sizeTys,
  count,
  countFields,
}
use Rattle.records.specs.Holds.{HoldsFactors, HoldsProduct, Holds, HoldsTys, HoldsFields, HoldsCon}
use Rattle.records.specs.Parsed.{only, only-tys, only-fields, only-factors, only-con}
use Rattle.records.specs.declared.View.{View}

pub ℕ-set : IsSet ℕ
ℕ-set = hedberg ℕ_discrete

pub View-set : IsSet View
View-set = Prim.hlevel (⊎_set, ℕ-set)

module _ (s : List ℕ) where
  factors-once : (p : Product ℕ) (at : ℕ) → IsProp (HoldsFactors s p at)
  unfolding HoldsFactors
  factors-once [] at = Unit-prop
  factors-once (a ↑ frac n d ∷ p) at = Prim.hlevel (⊎_set, ℕ-set, View-set, factors-once p (at + 1))

  product-once : (p : Product ℕ) (at : ℕ) → IsProp (HoldsProduct s p at)
  unfolding HoldsProduct
  product-once p at = Prim.hlevel (ℕ-set, View-set, factors-once p (at + 1))

  mutual
    unfolding Holds

    pub type-once : (t : Ty ℕ) (at : ℕ) → IsProp (Holds s t at)
    type-once (opened o) at = Prim.hlevel (ℕ-set, View-set)
    type-once (basic b) at = Prim.hlevel (ℕ-set, View-set)
    type-once (dim p) at = product-once p at
    type-once (fn ps r) at = Prim.hlevel (ℕ-set, View-set, tys-once ps (at + 1), type-once r (at + 1 + sizeTys ps))
    type-once (struct n as' fs) at = Prim.hlevel (ℕ-set, View-set, tys-once as' (at + 1), fields-once fs (at + 1 + sizeTys as'))
    type-once (list t) at = Prim.hlevel (ℕ-set, View-set, type-once t (at + 1))

    tys-once : (ts : Tys ℕ) (at : ℕ) → IsProp (HoldsTys s ts at)
    tys-once nil at = Unit-prop
    tys-once (cons t ts) at = Prim.hlevel (type-once t at, tys-once ts (at + size t))

    fields-once : (fs : Fields ℕ) (at : ℕ) → IsProp (HoldsFields s fs at)
    fields-once noFields at = Unit-prop
    fields-once (field n t fs) at = Prim.hlevel (ℕ-set, View-set, type-once t (at + 1), fields-once fs (at + 1 + size t))

  pub con-once : (c : Con ℕ) (at : ℕ) → IsProp (HoldsCon s c at)
  unfolding HoldsCon
  con-once (equal l r) at = Prim.hlevel (ℕ-set, View-set, type-once l (at + 1), type-once r (at + 1 + size l))
  con-once (isDim t) at = Prim.hlevel (ℕ-set, View-set, type-once t (at + 1))
  con-once (is_scalar p) at = Prim.hlevel (ℕ-set, View-set, product-once p (at + 1))
  con-once (hasField x l r) at = Prim.hlevel (ℕ-set, View-set, type-once l (at + 1), type-once r (at + 1 + size l))

  -- the tree at a place; the n types, fields, factors from a place on
  pub record IsTypes (at n : ℕ) (ts : Tys ℕ) : Type 0 where
    pub held : HoldsTys s ts at
    pub many : count ts ≡ n

  pub record IsFields (at n : ℕ) (fs : Fields ℕ) : Type 0 where
    pub held : HoldsFields s fs at
    pub many : countFields fs ≡ n

  pub record IsProduct (at n : ℕ) (p : Product ℕ) : Type 0 where
    pub held : HoldsFactors s p at
    pub many : length p ≡ n

  abbrev pub ATree : ℕ → Type 0
  ATree at = (t : Ty ℕ) × Holds s t at

  abbrev pub ACon : ℕ → Type 0
  ACon at = (c : Con ℕ) × HoldsCon s c at

  abbrev pub Trees : ℕ → ℕ → Type 0
  Trees at n = (ts : Tys ℕ) × IsTypes at n ts

  abbrev pub FieldTrees : ℕ → ℕ → Type 0
  FieldTrees at n = (fs : Fields ℕ) × IsFields at n fs

  abbrev pub Factors : ℕ → ℕ → Type 0
  Factors at n = (p : Product ℕ) × IsProduct at n p

  pub one-tree : (at : ℕ) → IsProp (ATree at)
  one-tree at p q = Σ_prop_path (λ t. type-once t at) (only s p.0 q.0 at p.1 q.1)

  pub one-con : (at : ℕ) → IsProp (ACon at)
  one-con at p q = Σ_prop_path (λ c. con-once c at) (only-con s p.0 q.0 at p.1 q.1)

  pub one-list : (at n : ℕ) → IsProp (Trees at n)
  one-list at n p q = Σ_prop_path (λ ts. Prim.hlevel (ℕ-set, tys-once ts at)) (only-tys s p.0 q.0 at (p.1.many ∙ sym q.1.many) p.1.held q.1.held)

  pub one-field-list : (at n : ℕ) → IsProp (FieldTrees at n)
  one-field-list at n p q = Σ_prop_path (λ fs. Prim.hlevel (ℕ-set, fields-once fs at)) (only-fields s p.0 q.0 at (p.1.many ∙ sym q.1.many) p.1.held q.1.held)

  pub one-product : (at n : ℕ) → IsProp (Factors at n)
  one-product at n p q = Σ_prop_path (λ r. Prim.hlevel (ℕ-set, factors-once r at)) (only-factors s p.0 q.0 at (p.1.many ∙ sym q.1.many) p.1.held q.1.held)
