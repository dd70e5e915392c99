-- Closed, contains, variables. All look into arguments and fields.
use Rattle.std.specs.Prelude.{Bool, true, false, not, List, [], ◌∷◌}
use Rattle.std.proofs.Math.Option.{Option, none, some}
use Prim.Native.Nat.{Ordering}
use Rattle.rules.specs.Base.{is_yes, any, all, collect, to_list, isNil}
use Rattle.rules.specs.Trees.{Open, var, Names, Ty, Fields, noFields, field, open-dec, opens}
use Rattle.rules.specs.Views.{variable, parameter, name_of}

module _ {N : Type 0} where
  -- 'closed when it holds no variable and no parameter'
  unfoldable pub closed : Ty N → Bool
  closed t = isNil (opens t)

  -- the names of the variables among open names; of the parameters; of both
  unfoldable pub variablesIn : List (Open N) → List N
  variablesIn os = collect (λ o. to_list (variable o)) os

  unfoldable pub parametersIn : List (Open N) → List N
  parametersIn os = collect (λ o. to_list (parameter o)) os

  unfoldable pub namesIn : List (Open N) → List N
  namesIn os = collect (λ o. to_list (name_of o)) os

module _ {N : Type 0} (ν : Names N) where
  unfoldable pub among : N → List N → Bool
  among x xs = any (λ y. is_yes (ν.same x y)) xs

  -- is x a variable of the type
  unfoldable pub contains : N → Ty N → Bool
  contains x t = any (λ o. is_yes (open-dec ν (var x) o)) (opens t)

  -- is x a variable of the type or, where asked, a parameter
  unfoldable pub containsName : Bool → N → Ty N → Bool
  containsName true x t = among x (namesIn (opens t))
  containsName false x t = contains x t

  -- the type of the field x
  unfoldable pub fieldIn : N → Fields N → Option (Ty N)
  fieldIn x noFields = none
  fieldIn x (field n t fs) = elim (is_yes (ν.same x n)) [ true ↦ some t | false ↦ fieldIn x fs ]

  -- a name in its place among rising names, once
  unfoldable pub sorted : N → List N → List N
  sorted x [] = x ∷ []
  sorted x (y ∷ ys) = elim (ν.order x y) [
    | Ordering.lt ↦ x ∷ y ∷ ys
    | Ordering.eq ↦ y ∷ ys
    | Ordering.gt ↦ y ∷ sorted x ys
  ]

  -- 'sorted by name bytes, once each'
  unfoldable pub sort : List N → List N
  sort [] = []
  sort (x ∷ xs) = sorted x (sort xs)

  -- the variables of a type and, where asked, the parameters
  unfoldable pub variables : Bool → Ty N → List N
  variables true t = sort (namesIn (opens t))
  variables false t = sort (variablesIn (opens t))

  -- refusal 4: 'one name is both a variable and a parameter'
  unfoldable pub unmixed : List (Open N) → Bool
  unmixed os = all (λ x. not (among x (parametersIn os))) (variablesIn os)
