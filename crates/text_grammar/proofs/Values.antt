-- What follows from the definitions of specs/Values: what a power is worth, by the numbers that the code has of it.
use Rattle.text_grammar.specs.declared.inner.Point.{Point}
use Rattle.std.specs.Prelude.{◌≡◌, refl, Bool, true, false, ◌&&◌, ℕ, zero, suc, ◌*◌, ◌/◌, ◌≤◌, ◌<◌, min, ℤ, pos, nat_abs}
use Rattle.std.proofs.Common.{sym, ap, ap₂, ◌∙◌, mul-one, one-mul, div-le_self, mul-zero, arith}
use Rattle.std.proofs.Math.Nat.{mul-div_cancel'}
use borrow.Author.Tests.{leb-true, leb-false, le-leb, lt-leb, lt-ltb}
use Rattle.std.proofs.Math.Dec.{leb}
use Rattle.std.proofs.Math.Bool.{and-false}
use Rattle.rules.specs.Base.{Got, got, refused, bounded}
use Rattle.rules.specs.Exponents.{Exp, frac, lowest, gcd, top, in_range, goodExp, mul, inverted, times, quotient}
use Rattle.rules.specs.Writing.{signed, by_sign}
use Rattle.laws.proofs.Integers.{natAbs-neg}
use Rattle.laws.proofs.Gcd.{is-gcd, coprime}
use Rattle.laws.proofs.Twos.{gcd-one}
use Rattle.laws.proofs.Ranges.{Good, is-good}
use Rattle.rules.specs.Grammar.{PowerAt, signedBy}
use Rattle.rules.specs.TextReading.{powerOf}
use Rattle.text_grammar.specs.Powers.{Typed}
use Rattle.text_grammar.specs.Values.{value_of}

-- ══ Whole numbers in range ══

pub signed-small : (w : ℕ) → w ≤ top → signed w ≡ pos w
unfolding signed by_sign
signed-small w h = rw (lt-ltb w 2147483648 (omega arith))

pub whole-good : (n : ℕ) → n ≤ top → goodExp (frac (pos n) 1) ≡ true
whole-good n h = is-good (pos n) 1 (record { num = h; positive = omega arith; den = omega arith; coprime = gcd-one n })

divided : (n d : ℕ) → 0 < d → in_range (lowest (pos n) d) ≡ true → quotient bounded (frac (pos n) 1) (frac (pos d) 1) ≡ got (lowest (pos n) d)
unfolding quotient inverted times mul
divided n zero e r = absurd (omega arith)
divided n (suc m) e r = rw (mul-one n, one-mul (suc m), r)

pub word_good : {n : ℕ} {a : Exp} → n ≤ top → a ≡ frac (signed n) 1 → goodExp a ≡ true
word_good {n} {a} h e = ap goodExp (e ∙ ap (λ (z : ℤ). frac z 1) (signed-small n h)) ∙ whole-good n h

module _ (n d : ℕ) (h : n ≤ top) (k : 0 < d) (l : d ≤ top) where
  abbrev g : ℕ
  g = gcd n d

  under-pos : (q : ℕ) → g * q ≡ d → 0 < q
  under-pos zero e = omega (arith, mul-zero g)
  under-pos (suc q) e = omega arith

  reduced-good : Good (pos (n / g)) (d / g)
  reduced-good = record {
    num = omega (arith, div-le_self n g);
    positive = under-pos (d / g) (mul-div_cancel' g (is-gcd n d).right);
    den = omega (arith, div-le_self d g);
    coprime = coprime n d k;
  }

  pub lowest-good : goodExp (lowest (pos n) d) ≡ true
  unfolding lowest
  lowest-good = is-good (pos (n / g)) (d / g) reduced-good

  lowest-ranged : in_range (lowest (pos n) d) ≡ true
  unfolding lowest in_range
  lowest-ranged = simp (le-leb _ _ reduced-good.num, le-leb _ _ reduced-good.positive, le-leb _ _ reduced-good.den)

  -- two whole numbers in range, divided
  pub whole-quotient : quotient bounded (frac (pos n) 1) (frac (pos d) 1) ≡ got (lowest (pos n) d)
  whole-quotient = divided n d k lowest-ranged

  -- the same by words
  pub words-quotient : {x : Got Exp} {a b : Exp} → a ≡ frac (signed n) 1 → b ≡ frac (signed d) 1 → x ≡ quotient bounded a b → x ≡ got (lowest (pos n) d)
  words-quotient {x} {a} {b} e f y =
      let i : a ≡ frac (pos n) 1 = e ∙ ap (λ (z : ℤ). frac z 1) (signed-small n h) in
      let j : b ≡ frac (pos d) 1 = f ∙ ap (λ (z : ℤ). frac z 1) (signed-small d l) in
      y ∙ ap₂ (quotient bounded) i j ∙ whole-quotient

-- ══ A power's value ══

module _ (m : Bool) (n d : ℕ) where
  size_of : nat_abs (signedBy m n) ≡ n
  size_of = go m
    where
      go : (m : Bool) → nat_abs (signedBy m n) ≡ n
      go true = natAbs-neg (pos n)
      go false = refl

  pub value-large : top < n → value_of m n d ≡ refused 7
  unfolding in_range
  value-large h = rw (size_of, lt-leb n top h)

  pub value-zero : d < 1 → value_of m n d ≡ refused 7
  unfolding in_range
  value-zero h = rw (lt-leb 1 d h, and-false (leb (nat_abs (signedBy m n)) top))

  pub value-under : top < d → value_of m n d ≡ refused 7
  unfolding in_range
  value-under h = rw (lt-leb d top h, and-false (leb (nat_abs (signedBy m n)) top && leb 1 d))

  pub value_there : n ≤ top → 0 < d → d ≤ top → value_of m n d ≡ got (lowest (signedBy m n) d)
  unfolding in_range
  value_there h k l = rw (size_of, le-leb n top h, le-leb 1 d k, le-leb d top l)

-- the cap decides as the number itself does
capped-value : (m : Bool) (n d v w : ℕ) (t u : Bool) → leb v top ≡ t → leb w top ≡ u → n ≡ min v 2147483648 → d ≡ min w 2147483648
    → value_of m v w ≡ value_of m n d
capped-value m n d v w false u e f a b = value-large m v w (leb-false v top e) ∙ sym (value-large m n d (omega (arith, leb-false v top e)))
capped-value m n d v w true false e f a b = value-under m v w (leb-false w top f) ∙ sym (value-under m n d (omega (arith, leb-false w top f)))
capped-value m n d v w true true e f a b =
    let x : v ≡ n = omega (arith, leb-true v top e) in
    let y : w ≡ d = omega (arith, leb-true w top f) in
    rw (x, y)

-- what a power that was read is worth
pub typed-value : (m : Bool) (n d : ℕ) (s : Point) (p : PowerAt) → Typed s m n d p → powerOf p ≡ value_of m n d
unfolding powerOf
typed-value m n d s p t =
    rw t.numerator (capped-value m n d t.size p.denominator (leb t.size top) (leb p.denominator top) refl refl t.num-capped t.den-capped)
