-- Where a line of a text ends.
use Rattle.std.specs.Prelude.{◌≡◌, List, [], ◌∷◌, ℕ, ◌+◌, ◌-◌, ◌≤◌, ◌<◌, length, take, drop}
use Rattle.rules.specs.Names.{Bytes}
use Rattle.rules.specs.Grammar.{lines_of}

-- the bytes from a place up to r
abbrev pub line_at : Bytes → ℕ → ℕ → Bytes
line_at text at r = take (r - at) (drop at text)

-- the line that begins at a place ends at r: with a line feed, or with the text
pub record Cut (text : Bytes) (at r : ℕ) : Type 0 where
  pub behind : at ≤ r
  pub within : r ≤ length text
  pub rest : List Bytes
  pub is : lines_of (drop at text) ≡ line_at text at r ∷ rest
  pub more : r < length text → rest ≡ lines_of (drop (r + 1) text)
  pub last : r ≡ length text → rest ≡ []
