-- Text in a page of HTML: what is put for each byte, and what it is worth.
use Rattle.std.specs.Prelude.{◌≡◌, Bool, true, false, not, ◌&&◌, ◌||◌, ◌⊎◌, ℕ, ◌/◌, ◌%◌, ◌<◌, eqb, leb, ltb}
use mathlib.Core.List.{List, [], ◌∷◌, Memᴰ}
use Rattle.rules.specs.Base.{all, collect}
use Rattle.rules.specs.Grammar.{ascii}
use Rattle.rules.specs.Names.{Bytes}
use Rattle.rules.specs.TextWriting.{hexDigit}
use Rattle.laws.specs.Lists.{Every}

-- as it is, where nothing is against it; else as "\" and two hex digits
abbrev pub plainBy : Bool → ℕ → Bytes
plainBy true b = b ∷ []
plainBy false b = 92 ∷ hexDigit (b / 16) ∷ hexDigit (b % 16) ∷ []

-- the first that fits
abbrev pub orElse : Bool → Bytes → Bytes → Bytes
orElse true bs cs = bs
orElse false bs cs = cs

abbrev pub isControl : ℕ → Bool
isControl b = ltb b 32 || eqb b 127

unfoldable pub pageByte : Bool → ℕ → Bytes
pageByte whole b = orElse (eqb b 38) (ascii "&amp;") (orElse (eqb b 60) (ascii "&lt;") (orElse (eqb b 62) (ascii "&gt;")
    (orElse (eqb b 34) (ascii "&quot;") (orElse (eqb b 39) (ascii "&#39;") (plainBy (not (isControl b || (not whole && leb 128 b))) b)))))

-- ══ What it is worth ══

-- each is read as one sign
abbrev pub references : List Bytes
references = ascii "&amp;" ∷ ascii "&lt;" ∷ ascii "&gt;" ∷ ascii "&quot;" ∷ ascii "&#39;" ∷ []

-- a byte that means nothing in a page but itself: no control byte, no quote, no "&", "<", ">"
abbrev pub harmless : ℕ → Bool
harmless b = not (isControl b || eqb b 34 || eqb b 38 || eqb b 39 || eqb b 60 || eqb b 62)

abbrev pub IsPiece : Bytes → Type 0
IsPiece bs = Memᴰ bs references ⊎ (all harmless bs ≡ true)

-- references and harmless bytes, one after another
pub record Harmless (bs : Bytes) : Type 0 where
  pub pieces : List Bytes
  pub is : bs ≡ collect (λ p. p) pieces
  pub each : Every IsPiece pieces

abbrev pub AreBytes : Bytes → Type 0
AreBytes bs = Every (λ b. b < 256) bs

abbrev pub IsAscii : Bytes → Type 0
IsAscii bs = Every (λ b. b < 128) bs

pub record NoMarkup : Type 0 where
  -- whatever the text
  pub put : (whole : Bool) (text : Bytes) → AreBytes text → Harmless (collect (pageByte whole) text)
  -- and one that isn't UTF-8 is ASCII then
  pub ascii_alone : (text : Bytes) → AreBytes text → IsAscii (collect (pageByte false) text)
