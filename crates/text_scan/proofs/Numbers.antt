-- What follows from the definitions of specs/Numbers: digits read one by one, and their number with a cap on it.
use Rattle.std.specs.Prelude.{◌≡◌, false, ℕ, ◌+◌, ◌-◌, ◌*◌, ◌≤◌, ◌<◌, min, length, get_or}
use Rattle.std.proofs.Common.{◌∙◌, add-one, arith, drop_of_length-le, drop-cons}
use Rattle.rules.specs.Names.{Bytes}
use Rattle.rules.specs.Grammar.{isDigit, digitsFrom, digitsAt}
use Rattle.text_scan.specs.Scanned.{place_in}
use Rattle.text_scan.specs.Numbers.{number_in, NumberRead, Digit, Stop}

-- what was read of a number, when a place i is reached
pub record Counting (line : Bytes) (at i n : ℕ) : Type 0 where
  pub within : i ≤ length line
  pub behind : at ≤ i
  pub value : ℕ
  pub is : digitsAt (place_in line at) ≡ number_in line value i
  pub capped : n ≡ min value 2147483648

pub stop-end : (line : Bytes) (i : ℕ) → length line ≤ i → Stop line i
unfolding digitsFrom digitsAt
stop-end line i h = record { number = λ v. rw (drop_of_length-le line {i = i} h); none = rw (drop_of_length-le line {i = i} h) }

pub stop-other : (line : Bytes) (i : ℕ) → i < length line → isDigit (get_or line i 0) ≡ false → Stop line i
unfolding digitsFrom digitsAt
stop-other line i h e = record { number = λ v. rw (drop-cons line i 0 h) (rw (e, digitsFrom)); none = rw (drop-cons line i 0 h) (rw (e, digitsAt)) }

pub first-digit : {line : Bytes} {at d : ℕ} → Digit line at d → Counting line at (at + 1) d
unfolding digitsFrom digitsAt
first-digit {line} {at} {d} g = record {
  within = omega (arith, g.there);
  behind = omega arith;
  value = 0 * 10 + (get_or line at 0 - 48);
  is = rw (drop-cons line at 0 g.there, add-one at) (rw (g.is, digitsAt, g.is, digitsFrom));
  capped = omega (arith, g.value, g.small);
}

pub one_more : {line : Bytes} {at i n d m : ℕ} → Counting line at i n → Digit line i d → m ≡ min (n * 10 + d) 2147483648 → Counting line at (i + 1) m
unfolding digitsFrom
one_more {line} {at} {i} {n} {d} c g k = record {
  within = omega (arith, g.there);
  behind = omega (arith, c.behind);
  value = c.value * 10 + (get_or line i 0 - 48);
  is = c.is ∙ rw (drop-cons line i 0 g.there, add-one i) (rw (g.is, digitsFrom));
  capped = omega (arith, c.capped, g.value);
}

pub whole : {line : Bytes} {at i n : ℕ} → Counting line at i n → Stop line i → NumberRead line at i n
whole c s = record { within = c.within; behind = c.behind; value = c.value; is = c.is ∙ s.number c.value; capped = c.capped }
