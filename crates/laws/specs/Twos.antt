-- Factors 2: what is left of a number without them, and what they do to a greatest common divisor.
use Rattle.std.specs.Prelude.{◌≡◌, ℕ, ◌*◌, ◌%◌, ◌^◌}

-- m is n without its factors 2
pub record WithoutTwos (n m : ℕ) : Type 0 where
  pub twos : ℕ
  pub is : m * 2 ^ twos ≡ n
  pub odd : m % 2 ≡ 1
