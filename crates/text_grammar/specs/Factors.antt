-- Names, factors and dimensions from point to point.
use Rattle.std.specs.Prelude.{drop}
use mathlib.Core.List.{List, [], ◌∷◌}
use Prim.Native.Nat.{ℕ}
use Rattle.rules.specs.Names.{Bytes}
use Rattle.rules.specs.Trees.{Atom, base}
use Rattle.rules.specs.Grammar.{Rule, give, ifSign}
use Rattle.rules.specs.Grammar.{choose, NameAt, PowerAt, power, noPower, FactorAt, marks, factors}
use Rattle.text_grammar.specs.declared.inner.Point.TheVariants as point
use Rattle.text_grammar.specs.declared.inner.Point.{Point}

-- ══ Names ══

abbrev pub noName : NameAt
noName = record { column = 0; bytes = [] }

-- ══ One of several rules ══

-- the byte with which the rest begins; 0 where there is none
abbrev pub first_byte : Bytes → ℕ
first_byte [] = 0
first_byte (b ∷ bs) = b

abbrev pub byte_of : Bytes → Point → ℕ
byte_of line (point.At i) = first_byte (drop i line)
byte_of line point.Deep = 0
byte_of line (point.Bad q) = 0

-- no rule fits here
abbrev pub refusedFrom : Point → Point
refusedFrom (point.At i) = point.Bad i
refusedFrom point.Deep = point.Deep
refusedFrom (point.Bad q) = point.Bad q

abbrev pub noAtom : Atom NameAt
noAtom = base noName

abbrev pub atom : Rule (Atom NameAt)
atom = choose noAtom marks

-- '[ power ]'
abbrev pub powerThere : Rule PowerAt
powerThere = ifSign "^" power (give noPower)

-- '[ factor { "*" factor } ]'
abbrev pub factorsThere : Rule (List FactorAt)
factorsThere = ifSign "]" (give []) factors
