-- A line by its parts: a constraint's record is counted at the line's first sign, and written when its types are there.
use Rattle.std.proofs.Math.Path.{◌≡◌}
use Rattle.std.specs.Prelude.{Bool, true, false, ℕ, length}
use mathlib.Core.List.{List, [], ◌∷◌}
use Rattle.std.proofs.Math.Option.{Option, none, some}
use Rattle.rules.specs.Base.{collect}
use Rattle.rules.specs.Names.{Bytes}
use Rattle.rules.specs.Trees.{Con}
use Rattle.rules.specs.Writing.{Rec, writeCon}
use Rattle.rules.specs.Grammar.{Rule}
use Rattle.rules.specs.Grammar.{ifSign, end_at}
use Rattle.rules.specs.Grammar.{ConAt}
use Rattle.rules.specs.Grammar.{typed, give}
use Rattle.rules.specs.Grammar as Grammar
use Rattle.rules.specs.TextReading.{Step, onward, counted, conOf, lineRead}
use Rattle.rules.specs.TextReading as TextReading
use Rattle.text_grammar.specs.Points.{Reads, Any, beginsAt}
use Rattle.text_grammar.specs.declared.inner.Point.{Point}
use Rattle.text_names.specs.Effects.{Lent, Kept, Effect, Writes}
use Rattle.text_names.specs.declared.inner.Reached.{Reached}
use Rattle.text_types.specs.declared.inner.Buffers.{Buffers}
use Rattle.text_types.specs.Entering.{Entered}

-- the byte b is "=", and a dimension begins at q; or not
abbrev pub SaysScalar : Bytes → Point → ℕ → Bool → Type 0
SaysScalar line q b true = (b ≡ 61) × (true ≡ beginsAt line q 91)
SaysScalar line q b false = b ≡ 61 → false ≡ beginsAt line q 91

-- the line ends here, or what follows fits nothing
abbrev pub end_of : Bytes → Point → Point → Type 0
end_of line e r = Reads line e end_at Any r

-- ══ A line ══

-- what a line means that fits the grammar
abbrev pub meantOf : Option ConAt → Step (List (Con ℕ))
meantOf none = TextReading.give []
meantOf (some c) = λ s. onward (conOf c s) (λ d. TextReading.give (d ∷ []))

-- n constraints, and their records
pub record LineTold (n : ℕ) (cs : List (Con ℕ)) (rs : List Rec) : Type 0 where
  pub counted : length cs ≡ n
  pub written : rs ≡ collect writeCon cs

abbrev pub stated : Rule ConAt
stated = ifSign "H" Grammar.hasField typed

-- a constraint that R reads was entered, and its records are written
abbrev pub ConEntered : Bytes → Rule ConAt → Reached → Buffers → Reached → Buffers → Type 0
ConEntered line R = Entered line R conOf (Writes writeCon)

-- what R reads of a line was entered: n constraints, and their records are written
abbrev pub LineEntered : Bytes → Rule (Option ConAt) → ℕ → Reached → Buffers → Reached → Buffers → Type 0
LineEntered line R n = Entered line R meantOf (LineTold n)

-- what a line did, of n constraints
pub record LineDone (line : Bytes) (x y : Lent) (n : ℕ) : Type 0 where
  pub kept : Kept x y
  pub effect : Effect (lineRead line) (LineTold n) x y
