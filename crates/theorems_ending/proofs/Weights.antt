-- What a constraint weighs: each round that binds nothing makes the constraints lighter. A record weighs at most 2.
use Rattle.std.specs.Prelude.{List, ℕ, suc, ◌+◌}
use Rattle.std.proofs.Math.Option.{Option, none, some}
use Rattle.rules.specs.Base.{sum_of}
use Rattle.rules.specs.Trees.{
  Product,
  Ty,
  opened,
  basic,
  dim,
  fn,
  struct,
  list,
  Tys,
  nil,
  cons,
  Fields,
  noFields,
  field,
  Con,
  equal,
  isDim,
  is_scalar,
  hasField,
}
use Rattle.rules.specs.Views.{productOf}

module _ {N : Type 0} where
  -- a variable may have to become a dimension yet, so it weighs 2; factors and fields weigh nothing
  unfoldable mutual
    pub weigh : Ty N → ℕ
    weigh (opened o) = 2
    weigh (basic b) = 1
    weigh (dim p) = 1
    weigh (fn ps r) = suc (weighTys ps + weigh r)
    weigh (struct n as' fs) = suc (weighTys as' + weighFields fs)
    weigh (list t) = suc (weigh t)

    pub weighTys : Tys N → ℕ
    weighTys nil = 0
    weighTys (cons t ts) = weigh t + weighTys ts

    pub weighFields : Fields N → ℕ
    weighFields noFields = 0
    weighFields (field n t fs) = weigh t + weighFields fs

  abbrev pub weighDim : Option (Product N) → ℕ
  weighDim none = 0
  weighDim (some p) = 1

  unfoldable pub weighCon : Con N → ℕ
  weighCon (equal s t) = weigh s + weigh t
  weighCon (isDim t) = weighDim (productOf t)
  weighCon (is_scalar p) = 1
  weighCon (hasField n s t) = weigh s + weigh t

  abbrev pub weighAll : List (Con N) → ℕ
  weighAll cs = sum_of weighCon cs
