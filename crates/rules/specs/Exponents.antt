-- Exponents: fractions in lowest terms, within a range.
use Rattle.std.proofs.Common.{sym, ap}
use Rattle.std.specs.Prelude.{Bool, not, ◌&&◌, ℕ, zero, suc, ◌*◌, ◌/◌, ◌%◌, leb, eqb, ℤ, pos, negsuc, neg_ℤ, nat_abs, ◌+ℤ◌, ◌*ℤ◌}
use Rattle.std.proofs.Math.Option.{Option, none, some}
use Rattle.std.proofs.Math.Decide.{ℕ_discrete}
use Rattle.std.proofs.Math.IntN.{pos-ne-negsuc}
use Rattle.rules.specs.Base.{Got, got, refused, Limits, bounded, exact, allow}

-- a pair of whole numbers: numerator and denominator
pub data Exp : Type 0 where
  frac : ℤ → ℕ → Exp
  deriving Discrete as Exp-discrete

unfoldable pub ℤ-dec : Discrete ℤ
unfolding ℕ_discrete
ℤ-dec (pos m) (pos n) = elim (ℕ_discrete m n) [ yes p ↦ yes (ap pos p) | no f ↦ no (λ e. f (cc)) ]
ℤ-dec (pos m) (negsuc n) = no (pos-ne-negsuc m n)
ℤ-dec (negsuc m) (pos n) = no (λ e. pos-ne-negsuc n m (sym e))
ℤ-dec (negsuc m) (negsuc n) = elim (ℕ_discrete m n) [ yes p ↦ yes (ap negsuc p) | no f ↦ no (λ e. f (cc)) ]

unfoldable pub Exp-dec : Discrete Exp
unfolding ℤ-dec ℕ_discrete
Exp-dec = Exp-discrete ℤ-dec ℕ_discrete

abbrev pub numerator : Exp → ℤ
numerator (frac n d) = n

abbrev pub denominator : Exp → ℕ
denominator (frac n d) = d

-- the exponents zero and one
abbrev pub nought : Exp
nought = frac (pos 0) 1

abbrev pub one : Exp
one = frac (pos 1) 1

-- the greatest common divisor, by Euclid's rule; the first number bounds the steps
unfoldable pub gcdIn : ℕ → ℕ → ℕ → ℕ
gcdIn zero a b = a
gcdIn (suc k) a zero = a
gcdIn (suc k) a (suc b) = gcdIn k (suc b) (a % suc b)

unfoldable pub gcd : ℕ → ℕ → ℕ
gcd a b = gcdIn (suc b) a b

-- 'reduced': the fraction n / d in lowest terms
unfoldable pub lowest : ℤ → ℕ → Exp
lowest (pos n) d = frac (pos (n / gcd n d)) (d / gcd n d)
lowest (negsuc n) d = frac (neg_ℤ (pos (suc n / gcd (suc n) d))) (d / gcd (suc n) d)

-- 'numerator -2,147,483,647 to 2,147,483,647, denominator 1 to 2,147,483,647'
abbrev pub top : ℕ
top = 2_147_483_647

unfoldable pub in_range : Exp → Bool
in_range (frac n d) = leb (nat_abs n) top && leb 1 d && leb d top

-- 'an exponent is in lowest terms' and in range
unfoldable pub goodExp : Exp → Bool
goodExp (frac n d) = in_range (frac n d) && eqb (gcd (nat_abs n) d) 1

abbrev pub isZero : Exp → Bool
isZero (frac n d) = eqb (nat_abs n) 0

-- 'a stored numerator isn't 0'
unfoldable pub goodStored : Exp → Bool
goodStored e = not (isZero e) && goodExp e

-- 'outside the range it is 7'; exact arithmetic has no range
abbrev pub ranged : Limits → Exp → Got Exp
ranged exact e = got e
ranged bounded e = allow (in_range e) 7 e

-- exact negation, sum and product; the inverse of a power that isn't 0
unfoldable pub neg : Exp → Exp
neg (frac n d) = frac (neg_ℤ n) d

unfoldable pub plus : Exp → Exp → Exp
plus (frac n d) (frac m e) = lowest (n *ℤ pos e +ℤ m *ℤ pos d) (d * e)

unfoldable pub mul : Exp → Exp → Exp
mul (frac n d) (frac m e) = lowest (n *ℤ m) (d * e)

unfoldable pub inverted : Exp → Option Exp
inverted (frac (pos zero) d) = none
inverted (frac (pos (suc n)) d) = some (frac (pos d) (suc n))
inverted (frac (negsuc n) d) = some (frac (neg_ℤ (pos d)) (suc n))

-- 'each sum, product, negation or quotient of exponents is exact, then reduced; outside the range it is 7'. Turning the sign of a fraction
-- in lowest terms leaves it in lowest terms
unfoldable pub sum : Limits → Exp → Exp → Got Exp
sum l a b = ranged l (plus a b)

unfoldable pub times : Limits → Exp → Exp → Got Exp
times l a b = ranged l (mul a b)

unfoldable pub negation : Limits → Exp → Got Exp
negation l a = ranged l (neg a)

-- 'or is divided by 0': 7
abbrev pub timesInverse : Limits → Exp → Option Exp → Got Exp
timesInverse l a none = refused 7
timesInverse l a (some b) = times l a b

unfoldable pub quotient : Limits → Exp → Exp → Got Exp
quotient l a b = timesInverse l a (inverted b)
