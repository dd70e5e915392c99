-- Reading what was written gives it back.
use Rattle.std.specs.Prelude.{ℕ, ◌≤◌, nat_abs}
use mathlib.Core.List.{[], ◌∷◌}
use Rattle.rules.specs.Exponents.{frac, top}
use Rattle.rules.specs.Trees.{◌↑◌, Product, Ty, opened, basic, dim, fn, struct, list, Tys, nil, cons, Fields, noFields, field}

-- numerators that a word can hold
abbrev pub FitsProduct : Product ℕ → Type 0
FitsProduct [] = Unit {0}
FitsProduct (a ↑ frac n d ∷ p) = (nat_abs n ≤ top) × FitsProduct p

abbrev mutual
  pub Fits : Ty ℕ → Type 0
  Fits (opened o) = Unit {0}
  Fits (basic b) = Unit {0}
  Fits (dim p) = FitsProduct p
  Fits (fn ps r) = FitsTys ps × Fits r
  Fits (struct n as' fs) = FitsTys as' × FitsFields fs
  Fits (list t) = Fits t

  pub FitsTys : Tys ℕ → Type 0
  FitsTys nil = Unit {0}
  FitsTys (cons t ts) = Fits t × FitsTys ts

  pub FitsFields : Fields ℕ → Type 0
  FitsFields noFields = Unit {0}
  FitsFields (field n t fs) = Fits t × FitsFields fs
