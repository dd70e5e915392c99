-- Exponents and products as words, and back: two for an exponent, its numerator in two's complement and its denominator; four for a factor, its kind, its
-- name or index, and its exponent. Past the end of a list words count as 0.
use Rattle.std.specs.Prelude.{ℕ, zero, suc, ◌+◌, ◌*◌, List, [], ◌∷◌, slice_index}
use Rattle.rules.specs.Exponents.{Exp, frac}
use Rattle.rules.specs.Values.{FactorValue, ProductValue}
use Rattle.rules.specs.Writing.{twos, signed}

-- from a place on
abbrev pub exponentAt : List ℕ → ℕ → Exp
exponentAt a i = frac (signed (slice_index a i)) (slice_index a (i + 1))

-- the i-th four words
abbrev pub factorAt : List ℕ → ℕ → FactorValue
factorAt a i = record { kind = slice_index a (i * 4); name = slice_index a (i * 4 + 1); exp = exponentAt a (i * 4 + 2) }

-- so many of them, from the i-th on
unfoldable pub factorsFrom : List ℕ → ℕ → ℕ → List FactorValue
factorsFrom a i zero = []
factorsFrom a i (suc n) = factorAt a i ∷ factorsFrom a (suc i) n

-- all 64 places of a product, with this count
abbrev pub productAt : List ℕ → ℕ → ProductValue
productAt a count = record { factors = factorsFrom a 0 64; len = count }

abbrev pub factorWords : FactorValue → List ℕ
factorWords f = f.kind ∷ f.name ∷ numerator f.exp ∷ denominator f.exp ∷ []
  where
    numerator : Exp → ℕ
    numerator (frac n d) = twos n

    denominator : Exp → ℕ
    denominator (frac n d) = d
