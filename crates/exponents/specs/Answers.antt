-- An exponent of the code as the rules' exponent, and a size with the sign of a number.
use Rattle.std.specs.Prelude.{ℕ, ℤ, pos, negsuc, neg_ℤ}
use Rattle.rules.specs.Exponents.{Exp, frac}
use Rattle.exponents.specs.declared.Exponent.{Exponent}

abbrev pub expOf : Exponent → Exp
expOf e = frac e.num e.den

abbrev pub with_sign : ℤ → ℕ → ℤ
with_sign (pos n) s = pos s
with_sign (negsuc n) s = neg_ℤ (pos s)
