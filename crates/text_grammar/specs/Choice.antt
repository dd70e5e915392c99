-- Which rule a type's first byte decides on.
use Rattle.std.specs.Prelude.{Bool, false, ◌||◌, List, [], ◌∷◌, ℕ, eqb}
use Prim.Native.Char.{Char, code}
use Rattle.rules.specs.Grammar.{Rule, chosen, TyAt, deepAt}
use Rattle.rules.specs.Grammar.{types, type, deepTypes}

-- the rules for a type whose inside is nested at most d deep
abbrev pub ruled : ℕ → Rule TyAt
ruled d = chosen (deepAt 0) (types (type d))

-- is a byte one with which a type begins?
abbrev pub among : ℕ → List Char → Bool
among b [] = false
among b (x ∷ xs) = eqb b (code x) || among b xs

abbrev pub heads : List Char
heads = "?" ∷ "!" ∷ "[" ∷ "B" ∷ "S" ∷ "D" ∷ "F" ∷ "L" ∷ "@" ∷ []

-- ══ A type nested too deep ══

abbrev pub deepRuled : Rule TyAt
deepRuled = chosen (deepAt 0) deepTypes
