-- Digits read one by one, and their number with a cap on it.
use Rattle.std.specs.Prelude.{◌≡◌, true, ℕ, suc, ◌-◌, ◌≤◌, ◌<◌, Option, None, Some, Result, Ok, Err, min, length, drop, get_or}
use Rattle.rules.specs.Names.{Bytes}
use Rattle.rules.specs.Grammar.{Parsed, read, bad, isDigit, digitsFrom, digitsAt}
use Rattle.text_scan.specs.Scanned.{place_in}
use Rattle.text_scan.specs.declared.inner.Number.{Number}

abbrev pub number_in : Bytes → ℕ → ℕ → Parsed ℕ
number_in line v at = digitsFrom v (suc at) (drop at line)

pub record NumberRead (line : Bytes) (at i n : ℕ) : Type 0 where
  pub within : i ≤ length line
  pub behind : at ≤ i
  pub value : ℕ
  pub is : digitsAt (place_in line at) ≡ read value (place_in line i)
  pub capped : n ≡ min value 2147483648

abbrev pub NumberScanned : Bytes → ℕ → Result Number ℕ → Type 0
NumberScanned line at (Ok n) = NumberRead line at n.end n.value
NumberScanned line at (Err p) = digitsAt (place_in line at) ≡ bad (suc p)

-- a digit of this value stands here
pub record Digit (line : Bytes) (i d : ℕ) : Type 0 where
  pub there : i < length line
  pub is : isDigit (get_or line i 0) ≡ true
  pub value : d ≡ get_or line i 0 - 48
  pub small : d < 10

-- no digit stands here
pub record Stop (line : Bytes) (i : ℕ) : Type 0 where
  pub number : (v : ℕ) → number_in line v i ≡ read v (place_in line i)
  pub none : digitsAt (place_in line i) ≡ bad (suc i)

abbrev pub DigitAt : Bytes → ℕ → Option ℕ → Type 0
DigitAt line i (Some d) = Digit line i d
DigitAt line i None = Stop line i
