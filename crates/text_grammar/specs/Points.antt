-- A rule of the grammar from a point of a line on, and what it reads.
use Rattle.std.specs.Prelude.{◌≡◌, Bool, false, [], ◌∷◌, ℕ, suc, ◌-◌, ◌≤◌, min, eqb, length}
use Rattle.rules.specs.Names.{Bytes}
use Rattle.rules.specs.Grammar.{Place, here, beyond, Parsed, read, bad, Rule, skip, spell}
use Rattle.text_scan.specs.Scanned.{place_in}
use Rattle.text_grammar.specs.declared.inner.Point.{Point}
use Rattle.text_grammar.specs.declared.inner.Point.TheVariants as point

-- a value read up to a point; nothing where the line is refused
abbrev pub standing : {A : Type 0} → Bytes → Point → A → Parsed A
standing line (point.At i) a = read a (place_in line i)
standing line point.Deep a = read a beyond
standing line (point.Bad q) a = bad (suc q)

-- a rule from a point on
abbrev pub from : {A : Type 0} → Bytes → Point → Rule A → Parsed A
from line (point.At i) R = R (place_in line i)
from line point.Deep R = R beyond
from line (point.Bad q) R = bad (suc q)

abbrev pub PointIn : Bytes → Point → Type 0
PointIn line (point.At i) = i ≤ length line
PointIn line point.Deep = Unit {0}
PointIn line (point.Bad q) = Unit {0}

-- how many bytes are left at a point
abbrev pub left_at : Bytes → Point → ℕ
left_at line (point.At i) = length line - i
left_at line point.Deep = 0
left_at line (point.Bad q) = 0

-- a rule goes from a point p to a point r, and its value, if there is one, is told
pub record Reads {A : Type 0} (line : Bytes) (p : Point) (R : Rule A) (P : A → Type 0) (r : Point) : Type 0 where
  pub within : PointIn line r
  pub onward : left_at line r ≤ left_at line p
  pub value : A
  pub is : from line p R ≡ standing line r value
  pub holds : P value

abbrev pub Any : {A : Type 0} → A → Type 0
Any a = Unit {0}

abbrev pub Same : {A : Type 0} → A → A → Type 0
Same a v = a ≡ v

abbrev pub Capped : ℕ → ℕ → Type 0
Capped n v = n ≡ min v 2147483648

-- ══ Signs ══

-- a sign of one byte, behind blanks
abbrev pub marked : ℕ → Rule (Unit {0})
marked b = λ p. spell (b ∷ []) (skip p)

-- the column of a point
abbrev pub columnAt : Point → ℕ
columnAt (point.At i) = suc i
columnAt point.Deep = 0
columnAt (point.Bad q) = 0

-- the first byte at a place
unfoldable pub begins : Place → ℕ → Bool
begins (here c []) b = false
begins (here c (x ∷ xs)) b = eqb x b
begins beyond b = false

abbrev pub beginsAt : Bytes → Point → ℕ → Bool
beginsAt line (point.At i) b = begins (skip (place_in line i)) b
beginsAt line point.Deep b = false
beginsAt line (point.Bad q) b = false

-- a sign of one byte: one byte less is left
pub record MarkRead (line : Bytes) (p : Point) (b : ℕ) (r : Point) : Type 0 where
  pub reads : Reads line p (marked b) Any r
  pub less : left_at line r ≤ left_at line p - 1
