-- What the code tests and computes, against the rules on exponents.
use mathlib.Core.Path.{◌≡◌, refl, sym, ◌∙◌, ap}
use mathlib.Core.Bool.{Bool, true, false, ◌&&◌}
use mathlib.Core.Logic.{◌⊎◌, inl, inr}
use mathlib.Core.Option.{none, some}
use Prim.Native.Nat.{ℕ, zero, suc, min, ◌*◌, ◌/◌, ◌%◌, ◌^◌, ◌≤◌, ◌<◌}
use native.Mathlib.Nat.{mul-le-mul, mul-pos}
use Rattle.std.proofs.Math.Nat.{min-eq_left, min-eq_right}
use Rattle.std.proofs.Math.Decide.{dec_le}
use native.Mathlib.Omega.{arith}
use borrow.Author.Tests.{le-leb, lt-leb, eqb-true, eqb-false}
use lib.Dec.{leb, ltb}
use lib.IntN.{ℤ, pos, negsuc, nat_abs, neg_ℤ, ◌+ℤ◌, ◌-ℤ◌, ◌*ℤ◌, +ℤ_idl}
use mir.Syntax.{w32, w64}
use mir.Val.{SFits, to_z, of_z}
use Rattle.std.proofs.lemmas.Int.{fits_signed_from_abs, to_z-of_z, of_z-to_z}
use Rattle.std.proofs.lemmas.Bool.Decides.{nat_tests}
use Rattle.rules.specs.Base.{got, refused, bounded}
use Rattle.rules.specs.Exponents.{Exp, frac, goodExp, gcd, lowest, top, in_range, isZero, ranged, inverted}
use Rattle.rules.specs.Writing.{twos, signed, by_sign}
use Rattle.laws.proofs.Integers.{natAbs-neg, nat_abs_mul, natAbs-plus}
use Rattle.laws.proofs.Gcd.{gcd-pos, gcd-comm, gcd-end}
use Rattle.std.specs.Int.Count.{count_trailing_zeros}
use Rattle.laws.specs.Twos.{WithoutTwos}
use Rattle.laws.proofs.Twos.{Shifted, gcd-shifted, gcd-shifted-right, trailing, gcd-odd-step, gcd-self, min-odd, without-le, gcd-one, gcd-fits}
use Rattle.laws.proofs.Fractions.{lowest-terms}
use Rattle.laws.proofs.Ranges.{Good, good, negation-is, inverted-good}
use Rattle.exponents.specs.Answers.{with_sign}

-- ══ Words ══

pub signed-is : (b : ℕ) → to_z w32 b ≡ signed b
unfolding signed by_sign
signed-is b = go (ltb b 2147483648) refl
  where
    go : (t : Bool) → ltb b 2147483648 ≡ t → to_z w32 b ≡ by_sign (ltb b 2147483648) b
    go true e = rw e
    go false e = rw e (ap negsuc (omega arith))

pub twos-is : (z : ℤ) → of_z w32 z ≡ twos z
unfolding twos
twos-is (pos n) = refl
twos-is (negsuc n) = omega arith

-- ══ Reducing ══

pub sign-abs : (n : ℤ) (p : ℕ) → nat_abs (with_sign n p) ≡ p
sign-abs (pos n) p = refl
sign-abs (negsuc n) p = natAbs-neg (pos p)

pub sign_fits : (n : ℤ) (p : ℕ) → p < 2147483648 → SFits w32 (with_sign n p)
sign_fits n p h = fits_signed_from_abs w32 (with_sign n p) (rw (sign-abs n p) h)

lowest-is : (n : ℤ) (d : ℕ) → lowest n d ≡ frac (with_sign n (nat_abs n / gcd (nat_abs n) d)) (d / gcd (nat_abs n) d)
unfolding lowest
lowest-is (pos n) d = refl
lowest-is (negsuc n) d = refl

range-is : (n : ℤ) (p q : ℕ) → in_range (frac (with_sign n p) q) ≡ (leb p top && leb 1 q && leb q top)
unfolding in_range
range-is n p q = rw (sign-abs n p)

module _ (n : ℤ) (d : ℕ) (h : 0 < d) where
  some_left : 0 < d / gcd (nat_abs n) d
  some_left = (lowest-terms (with_sign n (nat_abs n / gcd (nat_abs n) d)) (d / gcd (nat_abs n) d)
      (record { num = n; den = d; positive = h; is = sym (lowest-is n d) })).positive

  -- m is the size of n, and g the common divisor
  module _ (m g : ℕ) (k : m ≡ nat_abs n) (l : g ≡ gcd m d) where
    g-is : g ≡ gcd (nat_abs n) d
    g-is = l ∙ ap (λ (x : ℕ). gcd x d) k

    pub divisor-positive : 0 < g
    divisor-positive = rw g-is (gcd-pos _ _ h)

    pub over : (top < m / g) ⊎ ((m / g ≤ top) × (top < d / g)) → ranged bounded (lowest n d) ≡ refused 7
    over (inl p) = rw (lowest-is n d, range-is, lt-leb _ _ (rw (k, g-is) at p))
    over (inr p) =
        rw (lowest-is n d, range-is, le-leb _ _ (rw (k, g-is) at p.0), le-leb _ _ some_left, lt-leb _ _ (rw g-is at p.1))

    pub within : m / g ≤ top → d / g ≤ top → ranged bounded (lowest n d) ≡ got (frac (with_sign n (m / g)) (d / g))
    within p q =
        rw (k, g-is, lowest-is n d, range-is, le-leb _ _ (rw (k, g-is) at p), le-leb _ _ some_left, le-leb _ _ (rw g-is at q))

-- ══ The common factors 2 ══

gcd-shifted-least : {a b i j : ℕ} → Shifted a i → Shifted b j → gcd (a / 2 ^ i) (b / 2 ^ j) * 2 ^ min i j ≡ gcd a b
gcd-shifted-least {a} {b} {i} {j} s t = go (dec_le i j)
  where
    go : Dec (i ≤ j) → gcd (a / 2 ^ i) (b / 2 ^ j) * 2 ^ min i j ≡ gcd a b
    go (yes h) = rw (min-eq_left h) (gcd-shifted s t h)
    go (no h) = let k : j ≤ i = omega arith in rw (min-eq_right k) (gcd-shifted-right s t k)

-- what the code shifts away
module _ (a : ℕ) (h : 0 < a) (l : a < 2 ^ 64) where
  pub without : WithoutTwos a (a / 2 ^ count_trailing_zeros 64 a)
  without = let s = trailing 64 a h l in record { twos = count_trailing_zeros 64 a; is = s.is; odd = s.odd }

  pub odd-left : a / 2 ^ count_trailing_zeros 64 a % 2 ≡ 1
  odd-left = (trailing 64 a h l).odd

pub shifted-back : (a b : ℕ) → 0 < a → a < 2 ^ 64 → 0 < b → b < 2 ^ 64
    → gcd (a / 2 ^ count_trailing_zeros 64 a) (b / 2 ^ count_trailing_zeros 64 b) * 2 ^ min (count_trailing_zeros 64 a)
    (count_trailing_zeros 64 b) % 2 ^ 64 ≡ gcd a b
shifted-back a b h l k m =
    ap (λ (x : ℕ). x % 2 ^ 64) (gcd-shifted-least (trailing 64 a h l) (trailing 64 b k m)) ∙ gcd-fits 64 a b h l

-- ══ Products and sums at 64 bits ══

small : {m n : ℕ} → m ≤ top → n ≤ top → m * n < 2 ^ 62
small {m} {n} h k = omega (arith, mul-le-mul h k)

pub product_small : (n m : ℤ) → nat_abs n ≤ top → nat_abs m ≤ top → nat_abs (n *ℤ m) < 2 ^ 62
product_small n m h k = rw (nat_abs_mul n m) (small h k)

pub product-fits : (n m : ℤ) → nat_abs n ≤ top → nat_abs m ≤ top → SFits w64 (n *ℤ m)
product-fits n m h k = fits_signed_from_abs w64 (n *ℤ m) (omega (arith, product_small n m h k))

pub sum-fits : {n m : ℤ} {d e : ℕ} → Good n d → Good m e → SFits w64 (n *ℤ pos e +ℤ m *ℤ pos d)
sum-fits {n} {m} {d} {e} g k =
    fits_signed_from_abs w64 (n *ℤ pos e +ℤ m *ℤ pos d) (omega (
      arith,
      natAbs-plus (n *ℤ pos e) (m *ℤ pos d),
      product_small n (pos e) g.num k.den,
      product_small m (pos d) k.num g.den,
    ))

-- ══ The negative and the inverse ══

pub neg-held : (z : ℤ) → nat_abs z ≤ top → (pos 0 -ℤ to_z w32 (of_z w32 z) ≡ neg_ℤ z) × SFits w32 (neg_ℤ z)
neg-held z h =
    (rw (to_z-of_z w32 z (fits_signed_from_abs w32 z (omega arith)), +ℤ_idl), fits_signed_from_abs w32 (neg_ℤ z) (rw natAbs-neg (omega arith)))

pub inverted-is : (n : ℤ) (d : ℕ) → isZero (frac n d) ≡ false → inverted (frac n d) ≡ some (frac (with_sign n d) (nat_abs n))
unfolding inverted
inverted-is (pos zero) d h = absurd (eqb-false 0 0 h refl)
inverted-is (pos (suc n)) d h = refl
inverted-is (negsuc n) d h = refl

pub inverted-zero : (e : Exp) → isZero e ≡ true → inverted e ≡ none
unfolding inverted
inverted-zero (frac (pos zero) d) h = refl
inverted-zero (frac (pos (suc n)) d) h = absurd (omega (arith, eqb-true (suc n) 0 h))
inverted-zero (frac (negsuc n) d) h = absurd (omega (arith, eqb-true (suc n) 0 h))

-- a well formed exponent, for `grind`
pub goods : (n : ℤ) (d : ℕ) → goodExp (frac n d) ≡ true → (nat_abs n ≤ top) × (0 < d) × (d ≤ top)
goods n d h = let g = good n d h in (g.num, g.positive, g.den)

pub ruleset words = (signed-is, twos-is, to_z-of_z, of_z-to_z)

pub ruleset tests = (nat_tests, to_z-of_z)

pub ruleset reducing = (to_z-of_z, divisor-positive, over, within, sign_fits)

pub ruleset negations = (to_z-of_z, neg-held, goods, negation-is)

pub ruleset inverting = (to_z-of_z, goods, sign_fits, inverted-is, inverted-zero, inverted-good)

pub ruleset products = (to_z-of_z, goods, mul-pos, product-fits, sum-fits)

pub ruleset divisors = (without, odd-left, shifted-back, gcd-odd-step, gcd-self, min-odd, without-le, gcd-one, gcd-comm, gcd-end)
