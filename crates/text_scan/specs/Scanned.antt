-- What scanning a line says, by places that count from 0.
use Rattle.std.specs.Prelude.{◌≡◌, [], Result, Ok, Err, Option, None, Some, length, drop, get_or}
use Rattle.std.proofs.Math.Option.{none, some}
use Prim.Native.Nat.{ℕ, suc, ◌≤◌, ◌<◌}
use Rattle.rules.specs.Names.{Bytes}
use Rattle.rules.specs.Grammar.{Place, here, Parsed, read, bad, hexOf, whole, more}
use Rattle.rules.specs.Grammar.{nameFrom, skipFrom}
use Rattle.text_scan.specs.declared.inner.Letter.{Letter}

-- the place r of a line, as the grammar has it
abbrev pub place_in : Bytes → ℕ → Place
place_in line r = here (suc r) (drop r line)

pub record Skipped (line : Bytes) (at r : ℕ) : Type 0 where
  pub within : r ≤ length line
  pub behind : at ≤ r
  pub is : skipFrom (suc at) (drop at line) ≡ place_in line r

abbrev pub spelt : Bytes → Result ℕ ℕ → Parsed (Unit {0})
spelt line (Ok r) = read tt (place_in line r)
spelt line (Err r) = bad (suc r)

-- a name from a place on
abbrev pub nameIn : Bytes → ℕ → Parsed Bytes
nameIn line at = nameFrom whole (suc at) (drop at line)

pub record ByteThen (line : Bytes) (at b next : ℕ) : Type 0 where
  pub within : next ≤ length line
  pub further : at < next
  pub is : nameIn line at ≡ more b (nameIn line next)

-- a byte that is escaped
abbrev pub Escaped : Bytes → ℕ → Result Letter ℕ → Type 0
Escaped line at (Ok l) = ByteThen line at l.byte l.end
Escaped line at (Err r) = nameIn line at ≡ bad (suc r)

-- how a name goes on
abbrev pub Goes : Bytes → ℕ → Result (Option Letter) ℕ → Type 0
Goes line at (Ok (Some l)) = ByteThen line at l.byte l.end
Goes line at (Ok None) = nameIn line at ≡ read [] (place_in line at)
Goes line at (Err r) = nameIn line at ≡ bad (suc r)

-- a hex digit, if one stands there
abbrev pub HexAt : Bytes → ℕ → Result ℕ ℕ → Type 0
HexAt line at (Ok h) = (at < length line) × (hexOf (get_or line at 0) ≡ some h)
HexAt line at (Err r) = (r ≡ at) × (at < length line → hexOf (get_or line at 0) ≡ none)
