-- What a power is worth, by the numbers that the code has of it.
use Rattle.std.specs.Prelude.{Bool, ℕ}
use Rattle.rules.specs.Base.{Got, allow}
use Rattle.rules.specs.Exponents.{Exp, frac, lowest, in_range}
use Rattle.rules.specs.Grammar.{signedBy}

-- a sign, a size and a denominator, held against the range and reduced
abbrev pub value_of : Bool → ℕ → ℕ → Got Exp
value_of m n d = allow (in_range (frac (signedBy m n) d)) 7 (lowest (signedBy m n) d)
