-- Well formed exponents: what the test says, and that the bounded steps give well formed exponents again.
use Rattle.std.specs.Prelude.{◌≡◌, Bool, true, false, not, ◌&&◌, ℕ, zero, suc, ◌<◌, ◌≤◌, eqb, ℤ, pos, negsuc, neg_ℤ, nat_abs}
use Rattle.std.proofs.Math.Path.{refl}
use Rattle.std.proofs.Common.{ap, ◌∙◌, subst, arith}
use Rattle.std.proofs.Math.Bool.{and-eq-true_iff}
use Rattle.std.proofs.Math.Option.{Option, none, some}
use borrow.Author.Tests.{leb-true, le-leb, eqb-true, eq-eqb}
use Rattle.std.proofs.Math.Dec.{leb}
use Rattle.rules.specs.Base.{Got, got, bounded, allow, need, ◌>>◌}
use Rattle.rules.specs.Exponents.{
  Exp,
  frac,
  gcdIn,
  gcd,
  nought,
  one,
  top,
  in_range,
  goodExp,
  isZero,
  goodStored,
  ranged,
  neg,
  plus,
  mul,
  inverted,
  sum,
  times,
  negation,
  quotient,
  timesInverse,
}
use Rattle.std.proofs.lemmas.Bool.{not-true}
use Rattle.laws.proofs.Integers.{natAbs-neg}
use Rattle.laws.proofs.Gcd.{gcd-comm}
use Rattle.laws.proofs.Value.{Gives, refuses, allowed}
use Rattle.laws.specs.Fractions.{Lowest}
use Rattle.laws.proofs.Fractions.{lowest-terms, terms-lowest, coprime-terms, plus-in-lowest, mul-in-lowest, inverted-lowest}

-- what the test asks
pub record Good (n : ℤ) (d : ℕ) : Type 0 where
  pub num : nat_abs n ≤ top
  pub positive : 0 < d
  pub den : d ≤ top
  pub coprime : gcd (nat_abs n) d ≡ 1

module _ (n : ℤ) (d : ℕ) where
  pub good : goodExp (frac n d) ≡ true → Good n d
  unfolding goodExp in_range
  good h =
      let p = (and-eq-true_iff (in_range (frac n d)) (eqb (gcd (nat_abs n) d) 1)).0 h in
      let q = (and-eq-true_iff (leb (nat_abs n) top && leb 1 d) (leb d top)).0 p.0 in
      let r = (and-eq-true_iff (leb (nat_abs n) top) (leb 1 d)).0 q.0 in
      record {
        num = leb-true (nat_abs n) top r.0;
        positive = leb-true 1 d r.1;
        den = leb-true d top q.1;
        coprime = eqb-true (gcd (nat_abs n) d) 1 p.1;
      }

  pub is-good : Good n d → goodExp (frac n d) ≡ true
  unfolding goodExp in_range
  is-good g = simp (le-leb _ _ g.num, le-leb _ _ g.positive, le-leb _ _ g.den, eq-eqb _ _ g.coprime)

pub good-lowest : (e : Exp) → goodExp e ≡ true → Lowest e
good-lowest (frac n d) h =
    let g = good n d h in
    terms-lowest n d (coprime-terms n d g.positive g.coprime)

pub lowest-good : (e : Exp) → Lowest e → in_range e ≡ true → goodExp e ≡ true
unfolding goodExp
lowest-good (frac n d) l h = rw (h, eq-eqb _ _ (lowest-terms n d l).coprime)

pub nought-good : goodExp nought ≡ true
unfolding goodExp in_range gcd gcdIn
nought-good = refl

pub one-good : goodExp one ≡ true
unfolding goodExp in_range gcd gcdIn
one-good = refl

-- a stored exponent
pub stored-good : (e : Exp) → goodStored e ≡ true → goodExp e ≡ true
unfolding goodStored
stored-good e h = ((and-eq-true_iff (not (isZero e)) (goodExp e)).0 h).1

pub stored-not-zero : (e : Exp) → goodStored e ≡ true → isZero e ≡ false
unfolding goodStored
stored-not-zero e h = not-true (isZero e) ((and-eq-true_iff (not (isZero e)) (goodExp e)).0 h).0

pub is-stored : (e : Exp) → isZero e ≡ false → goodExp e ≡ true → goodStored e ≡ true
unfolding goodStored
is-stored e z h = rw (z, h)

-- ══ The bounded steps ══

pub ranged-good : (e : Exp) → Lowest e → Gives (ranged bounded e) (λ r. goodExp r ≡ true)
ranged-good e l = allowed (in_range e) 7 e (lowest-good e l)

-- a negative is never out of range
pub neg-good : (e : Exp) → goodExp e ≡ true → goodExp (neg e) ≡ true
unfolding goodExp in_range neg
neg-good (frac n d) h = rw (natAbs-neg n) h

pub negation-is : (e : Exp) → goodExp e ≡ true → negation bounded e ≡ got (neg e)
unfolding negation goodExp
negation-is (frac n d) h =
    let g = neg-good (frac n d) h in
    ap (λ (t : Bool). allow t 7 (neg (frac n d))) (in-range (neg (frac n d)) g)
  where
    in-range : (e : Exp) → goodExp e ≡ true → in_range e ≡ true
    in-range (frac m f) k = ((and-eq-true_iff (in_range (frac m f)) (eqb (gcd (nat_abs m) f) 1)).0 k).0

pub inverted-good : (a b : Exp) → goodExp a ≡ true → inverted a ≡ some b → goodExp b ≡ true
unfolding inverted
inverted-good (frac (pos zero) d) b h e = absurd (cc)
inverted-good (frac (pos (suc n)) d) b h e =
    let g = good (pos (suc n)) d h in
    let is : frac (pos d) (suc n) ≡ b = cc in
    subst (λ (x : Exp). goodExp x ≡ true) is
    (is-good (pos d) (suc n) (record { num = g.den; positive = omega arith; den = g.num; coprime = gcd-comm d (suc n) ∙ g.coprime }))
inverted-good (frac (negsuc n) d) b h e =
    let g = good (negsuc n) d h in
    let is : frac (neg_ℤ (pos d)) (suc n) ≡ b = cc in
    subst (λ (x : Exp). goodExp x ≡ true) is
    (is-good (neg_ℤ (pos d)) (suc n)
    (record {
      num = rw (natAbs-neg (pos d)) g.den;
      positive = omega arith;
      den = g.num;
      coprime = ap (λ (k : ℕ). gcd k (suc n)) (natAbs-neg (pos d))
          ∙ gcd-comm d (suc n) ∙ g.coprime;
    }))

module _ (a b : Exp) (h : goodExp a ≡ true) (k : goodExp b ≡ true) where
  pub sum-good : Gives (sum bounded a b) (λ r. goodExp r ≡ true)
  unfolding sum
  sum-good = ranged-good (plus a b) (plus-in-lowest a b (good-lowest a h) (good-lowest b k))

  pub times-good : Gives (times bounded a b) (λ r. goodExp r ≡ true)
  unfolding times
  times-good = ranged-good (mul a b) (mul-in-lowest a b (good-lowest a h) (good-lowest b k))

  pub quotient-good : Gives (quotient bounded a b) (λ r. goodExp r ≡ true)
  unfolding quotient times
  quotient-good = go (inverted b) refl
    where
      go : (o : Option Exp) → inverted b ≡ o → Gives (timesInverse bounded a o) (λ r. goodExp r ≡ true)
      go none e = refuses
      go (some c) e = ranged-good (mul a c) (mul-in-lowest a c (good-lowest a h) (inverted-lowest b c (good-lowest b k) e))

-- ══ The calls: every value that is answered is well formed ══

checked : (t : Bool) (m : Got Exp) → (t ≡ true → Gives m (λ r. goodExp r ≡ true)) → Gives (need t 1 >> m) (λ r. goodExp r ≡ true)
checked true m f = f refl
checked false m f = refuses

module _ (a b : Exp) where
  two : (m : Got Exp) → (goodExp a ≡ true → goodExp b ≡ true → Gives m (λ r. goodExp r ≡ true))
      → Gives (need (goodExp a && goodExp b) 1 >> m) (λ r. goodExp r ≡ true)
  two m f =
      checked (goodExp a && goodExp b) m (λ t. let p = (and-eq-true_iff (goodExp a) (goodExp b)).0 t in f p.0 p.1)
