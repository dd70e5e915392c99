-- What the rules ask, and the steps that they lead to.
use Rattle.std.specs.Prelude.{◌≡◌, true, List, [], ◌∷◌, ℕ}
use Rattle.std.proofs.Math.Option.{Option, none, some}
use Rattle.rules.specs.Base.{Got, got, ◌>>=◌}
use Rattle.rules.specs.Exponents.{goodExp}
use Rattle.rules.specs.Rounds as rules
use Rattle.rules.specs.Trees.{var, quant, par, Atom, free, base, ◌↑◌, opened, dim, Con, isDim, is_scalar, Product}

-- a product that was made is a scalar
abbrev pub asScalar : Got (Product ℕ) → Got (rules.Step ℕ)
asScalar m = m >>= λ q. got (rules.split (is_scalar q ∷ []))

-- x bound to a product that was made
abbrev pub boundTo : ℕ → Got (Product ℕ) → Got (rules.Step ℕ)
boundTo x m = m >>= λ q. got (rules.bind x (dim q))

-- the variable of a factor, and the name of a variable or a parameter
abbrev pub freeVariable : Atom ℕ → Option ℕ
freeVariable (free (var x)) = some x
freeVariable (free (quant i)) = none
freeVariable (free (par x)) = none
freeVariable (base x) = none

abbrev pub freeName : Atom ℕ → Option ℕ
freeName (free (var x)) = some x
freeName (free (quant i)) = none
freeName (free (par x)) = some x
freeName (base x) = none

-- the constraint that a name stands for a dimension
abbrev pub isDimOf : ℕ → List (Con ℕ)
isDimOf x = isDim (opened (var x)) ∷ []

-- powers that may be divided
abbrev pub GoodPowers : Product ℕ → Type 0
GoodPowers [] = Unit {0}
GoodPowers (a ↑ e ∷ p) = (goodExp e ≡ true) × GoodPowers p
