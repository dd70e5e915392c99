-- What is proved of weights.
use Rattle.std.specs.Prelude.{◌≡◌, List, [], ◌∷◌, ◌++◌, ◌+◌, ◌*◌, ◌≤◌, ◌<◌}
use Rattle.std.proofs.Math.Option.{Option, none, some}
use native.Mathlib.Omega.{arith}
use Rattle.rules.specs.Base.{sum_of}
use Rattle.rules.specs.Trees.{
  Product,
  Ty,
  opened,
  basic,
  dim,
  fn,
  struct,
  list,
  Tys,
  nil,
  cons,
  Fields,
  noFields,
  field,
  Con,
  equal,
  isDim,
  is_scalar,
  hasField,
  size,
  sizeTys,
  sizeFields,
  sizeCon,
}
use Rattle.rules.specs.Views.{productOf}
use Rattle.rules.specs.Rounds.{pairs}
use Rattle.theorems_ending.proofs.Weights.{weigh, weighTys, weighFields, weighDim, weighCon, weighAll}

module _ {N : Type 0} where
  pub weigh-append : (cs ds : List (Con N)) → weighAll (cs ++ ds) ≡ weighAll cs + weighAll ds
  weigh-append [] ds = omega arith
  weigh-append (c ∷ cs) ds = omega (arith, weigh-append cs ds)

  -- ══ Two a record ══

  mutual
    unfolding weigh size

    weigh-ty : (t : Ty N) → weigh t ≤ 2 * size t
    weigh-ty (opened o) = omega arith
    weigh-ty (basic b) = omega arith
    weigh-ty (dim p) = omega arith
    weigh-ty (fn ps r) = omega (arith, weigh-tys ps, weigh-ty r)
    weigh-ty (struct n as' fs) = omega (arith, weigh-tys as', weigh-fields fs)
    weigh-ty (list t) = omega (arith, weigh-ty t)

    weigh-tys : (ts : Tys N) → weighTys ts ≤ 2 * sizeTys ts
    weigh-tys nil = omega arith
    weigh-tys (cons t ts) = omega (arith, weigh-ty t, weigh-tys ts)

    weigh-fields : (fs : Fields N) → weighFields fs ≤ 2 * sizeFields fs
    weigh-fields noFields = omega arith
    weigh-fields (field n t fs) = omega (arith, weigh-ty t, weigh-fields fs)

  weigh-dim : (p : Option (Product N)) → weighDim p ≤ 2
  weigh-dim none = omega arith
  weigh-dim (some p) = omega arith

  weigh-con : (c : Con N) → weighCon c ≤ 2 * sizeCon c
  unfolding weighCon sizeCon
  weigh-con (equal s t) = omega (arith, weigh-ty s, weigh-ty t)
  weigh-con (isDim t) = omega (arith, weigh-dim (productOf t))
  weigh-con (is_scalar p) = omega arith
  weigh-con (hasField n s t) = omega (arith, weigh-ty s, weigh-ty t)

  pub weigh-all : (cs : List (Con N)) → weighAll cs ≤ 2 * sum_of sizeCon cs
  weigh-all [] = omega arith
  weigh-all (c ∷ cs) = omega (arith, weigh-con c, weigh-all cs)

  -- ══ A type weighs something, and pairs weigh no more than what they are made of ══

  pub weighty : (t : Ty N) → 0 < weigh t
  unfolding weigh
  weighty (opened o) = omega arith
  weighty (basic b) = omega arith
  weighty (dim p) = omega arith
  weighty (fn ps r) = omega arith
  weighty (struct n as' fs) = omega arith
  weighty (list t) = omega arith

  pub weigh-pairs : (ts us : Tys N) → weighAll (pairs ts us) ≤ weighTys ts + weighTys us
  unfolding pairs weigh weighCon
  weigh-pairs nil us = omega arith
  weigh-pairs (cons t ts) nil = omega arith
  weigh-pairs (cons t ts) (cons u us) = omega (arith, weigh-pairs ts us)
