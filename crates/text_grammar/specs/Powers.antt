-- A power, sign by sign.
use Rattle.std.specs.Prelude.{◌≡◌, Bool, true, false, ℕ}
use Rattle.rules.specs.Grammar.{Rule, give, sign, ifSign, digits, PowerAt, signedBy, ◌>>◌}
use Rattle.text_grammar.specs.declared.inner.Point.{Point}
use Rattle.text_grammar.specs.Points.{Capped, columnAt}

-- '[ "-" ]'
abbrev pub minusThere : Rule Bool
minusThere = ifSign "-" (sign "-" >> give true) (give false)

-- '[ "/" digits ]'
abbrev pub denominatorThere : Rule ℕ
denominatorThere = ifSign "/" (sign "/" >> digits) (give 1)

-- a power as the code tells it
pub record Typed (s : Point) (minus : Bool) (num den : ℕ) (v : PowerAt) : Type 0 where
  pub size : ℕ
  pub column : v.column ≡ columnAt s
  pub numerator : v.numerator ≡ signedBy minus size
  pub num-capped : Capped num size
  pub den-capped : Capped den v.denominator
