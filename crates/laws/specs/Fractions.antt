-- Exact arithmetic of fractions: lowest terms are unique, and the fractions in lowest terms are a field.
use Rattle.std.specs.Prelude.{◌≡◌, ℕ, ◌<◌, ℤ}
use Rattle.rules.specs.Exponents.{Exp, lowest}

-- ══ Lowest terms ══

-- an exponent in lowest terms
pub record Lowest (e : Exp) : Type 0 where
  pub num : ℤ
  pub den : ℕ
  pub positive : 0 < den
  pub is : e ≡ lowest num den
