-- Bounded steps on powers that are 0, 1, or a power and its negative: none of them leaves the range.
use Rattle.std.specs.Prelude.{◌≡◌, Bool, true, false, eqb, nat_abs}
use Rattle.std.proofs.Common.{ap, ◌∙◌}
use Rattle.std.proofs.Math.Bool.{and-eq-true_iff}
use Rattle.rules.specs.Base.{got, bounded, allow}
use Rattle.rules.specs.Exponents.{Exp, frac, gcd, nought, one, in_range, goodExp, isZero, ranged, neg, plus, mul, sum, times, quotient}
use Rattle.laws.proofs.KeepsGood.{has-inverse}
use Rattle.laws.proofs.Ranges.{good-lowest, nought-good}
use Rattle.laws.proofs.Fractions.{inverted-lowest, zero-is-nought, nought-mul, mul-nought, plus-nought, nought-plus, plus-neg, mul-one'}

abbrev pub Good : Exp → Type 0
Good e = goodExp e ≡ true

in-range : (e : Exp) → Good e → in_range e ≡ true
unfolding goodExp
in-range (frac n d) h = ((and-eq-true_iff (in_range (frac n d)) (eqb (gcd (nat_abs n) d) 1)).0 h).0

ranged-is : (e f : Exp) → e ≡ f → Good f → ranged bounded e ≡ got f
ranged-is e f q h = ap (ranged bounded) q ∙ ap (λ (t : Bool). allow t 7 f) (in-range f h)

pub zero_is : (e : Exp) → Good e → isZero e ≡ true → e ≡ nought
zero_is e h z = zero-is-nought e (good-lowest e h) z

pub nought-times : (k : Exp) → Good k → times bounded nought k ≡ got nought
unfolding times
nought-times k h = ranged-is (mul nought k) nought (nought-mul k (good-lowest k h)) nought-good

pub times-nought : (j : Exp) → Good j → times bounded j nought ≡ got nought
unfolding times
times-nought j h = ranged-is (mul j nought) nought (mul-nought j (good-lowest j h)) nought-good

pub times-one : (j : Exp) → Good j → times bounded j one ≡ got j
unfolding times
times-one j h = ranged-is (mul j one) j (mul-one' j (good-lowest j h)) h

pub sum-nought : (e : Exp) → Good e → sum bounded e nought ≡ got e
unfolding sum
sum-nought e h = ranged-is (plus e nought) e (plus-nought e (good-lowest e h)) h

pub nought-sum : (e : Exp) → Good e → sum bounded nought e ≡ got e
unfolding sum
nought-sum e h = ranged-is (plus nought e) e (nought-plus e (good-lowest e h)) h

pub sum-neg : (e : Exp) → Good e → sum bounded e (neg e) ≡ got nought
unfolding sum
sum-neg e h = ranged-is (plus e (neg e)) nought (plus-neg e (good-lowest e h)) nought-good

pub nought-quotient : (k : Exp) → Good k → isZero k ≡ false → quotient bounded (neg nought) k ≡ got nought
unfolding quotient neg times
nought-quotient k h z =
    let i = has-inverse k (good-lowest k h) z in
    rw i.1 (ranged-is (mul nought i.0) nought (nought-mul i.0 (inverted-lowest k i.0 (good-lowest k h) i.1)) nought-good)
