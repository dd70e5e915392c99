-- Types and fields in a row, turn by turn; parts that may be left out; and the type that a first byte decides on.
use Rattle.std.specs.Prelude.{◌≡◌, ℕ}
use Rattle.rules.specs.Names.{Bytes}
use Rattle.rules.specs.Writing.{writeTy}
use Rattle.rules.specs.TextReading.{ty_of}
use Rattle.text_grammar.specs.declared.inner.Point.{Point}
use Rattle.text_grammar.specs.Factors.{byte_of}
use Rattle.text_grammar.specs.Choice.{ruled}
use Rattle.text_names.specs.Effects.{Lent, Writes, Done}

-- a type that is none of a function, a list and a structure, whatever is allowed inside of these
abbrev pub LeafDone : Bytes → Point → Lent → Point → Lent → Type 0
LeafDone line p x r y =
    (d : ℕ) → (byte_of line p ≡ 70 → ⊥) → (byte_of line p ≡ 76 → ⊥) → (byte_of line p ≡ 64 → ⊥) → Done line (ruled d) ty_of (Writes writeTy) p x r y
