-- Powers of the code as those of the definitions, and that each is well formed.
use Rattle.std.specs.Prelude.{◌≡◌, true, List, map, ℕ, get_or}
use Rattle.rules.specs.Exponents.{Exp, nought, goodExp}
use Rattle.exponents.specs.declared.Exponent.{Exponent}
use Rattle.exponents.specs.Answers.{expOf}

unfoldable pub powersIn : List Exponent → List Exp
powersIn es = map expOf es

-- past the last power there is 0, which is well formed too
abbrev pub AllGood : List Exponent → Type 0
AllGood es = (j : ℕ) → goodExp (get_or (powersIn es) j nought) ≡ true
