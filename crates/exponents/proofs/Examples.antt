-- A few answers, computed: what `theorems::examples_come_out` promises.
use Rattle.std.specs.Prelude.{◌≡◌, refl, pos, negsuc}
use Rattle.rules.specs.Base.{got, refused}
use Rattle.rules.specs.Exponents.{frac, gcdIn, gcd, lowest, in_range, goodExp, neg, plus, mul, inverted, sum, times, negation, quotient}
use Rattle.rules.specs.Values.{sumCall, timesCall, negationCall, quotientCall}

unfoldable calls : Type 0
unfolding sumCall timesCall negationCall quotientCall sum times negation quotient plus mul neg inverted lowest in_range goodExp gcd gcdIn
calls = Unit {0}

-- 1/2 - 1/3 = 1/6
pub less-a-third : sumCall (frac (pos 1) 2) (frac (negsuc 0) 3) ≡ got (frac (pos 1) 6)
unfolding calls
less-a-third = refl

-- 2/3 times 3/2 = 1
pub times-inverse : timesCall (frac (pos 2) 3) (frac (pos 3) 2) ≡ got (frac (pos 1) 1)
unfolding calls
times-inverse = refl

-- 1/2 divided by -3/4 = -2/3
pub by-negative : quotientCall (frac (pos 1) 2) (frac (negsuc 2) 4) ≡ got (frac (negsuc 1) 3)
unfolding calls
by-negative = refl

pub by_zero : quotientCall (frac (pos 1) 2) (frac (pos 0) 1) ≡ refused 7
unfolding calls
by_zero = refl

-- the ends of the range
pub largest : sumCall (frac (pos 2_147_483_646) 1) (frac (pos 1) 1) ≡ got (frac (pos 2_147_483_647) 1)
unfolding calls
largest = refl

pub past-largest : sumCall (frac (pos 2_147_483_647) 1) (frac (pos 1) 1) ≡ refused 7
unfolding calls
past-largest = refl

pub past-least : sumCall (frac (negsuc 2_147_483_646) 1) (frac (negsuc 0) 1) ≡ refused 7
unfolding calls
past-least = refl

pub turned : negationCall (frac (negsuc 2_147_483_646) 1) ≡ got (frac (pos 2_147_483_647) 1)
unfolding calls
turned = refl

-- what is not well formed
pub not-lowest : timesCall (frac (pos 2) 4) (frac (pos 1) 1) ≡ refused 1
unfolding calls
not-lowest = refl

pub no-denominator : negationCall (frac (pos 1) 0) ≡ refused 1
unfolding calls
no-denominator = refl

pub too_small : negationCall (frac (negsuc 2_147_483_647) 1) ≡ refused 1
unfolding calls
too_small = refl
