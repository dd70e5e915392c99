-- What follows from the definitions of specs/Fractions: exact arithmetic of fractions: lowest terms are unique, and the fractions in lowest terms are a field.
use Rattle.std.specs.Prelude.{◌≡◌, refl, true, ℕ, zero, suc, ◌*◌, ◌/◌, ◌<◌, ℤ, negsuc, neg_ℤ, nat_abs, ◌+ℤ◌, ◌*ℤ◌}
use Rattle.std.proofs.Common.{ap, ◌∙◌, sym, subst, mul_comm, mul_assoc, mul_left_comm, mul-one, mul-pos, div-one, arith, eqb-true}
use Rattle.std.proofs.Math.Path.{ap₂}
use Rattle.std.proofs.Math.Option.{none, some}
use Rattle.std.proofs.Math.Nat.{mul-mul-mul_comm, mul-div-mul_left, zero-div, mul-div_cancel'}
use Rattle.std.proofs.Math.IntN.{pos, neg_ℤ-neg_ℤ, +ℤ_idr, +ℤ_invr, +ℤ_assoc, +ℤ_comm, zero-*ℤ, *ℤ_comm, *ℤ-zero}
use Rattle.rules.specs.Exponents.{Exp, frac, gcdIn, gcd, lowest, nought, one, neg, plus, mul, inverted, isZero}
use Rattle.laws.proofs.Gcd.{is-gcd, gcd-pos, gcd-comm, gcd-scale, coprime}
use Rattle.laws.proofs.Integers.{distrib, distrib-left, neg-mul, assoc, times-one, middle, four, natAbs-neg}
use Rattle.laws.specs.Fractions.{Lowest}

-- ══ Scaling ══

pub lowest-neg : (n : ℤ) (d : ℕ) → lowest (neg_ℤ n) d ≡ neg (lowest n d)
unfolding lowest neg
lowest-neg (pos zero) d = rw (zero-div (gcd 0 d))
lowest-neg (pos (suc n)) d = refl
lowest-neg (negsuc n) d = rw neg_ℤ-neg_ℤ

scale-pos : (k n d : ℕ) → 0 < k → lowest (pos (k * n)) (k * d) ≡ lowest (pos n) d
unfolding lowest
scale-pos k n d h = rw (gcd-scale k h n d, mul-div-mul_left n (gcd n d) h, mul-div-mul_left d (gcd n d) h)

-- a fraction may be scaled
pub lowest-scale : (k : ℕ) (n : ℤ) (d : ℕ) → 0 < k → lowest (pos k *ℤ n) (k * d) ≡ lowest n d
unfolding lowest neg
lowest-scale k (pos n) d h = scale-pos k n d h
lowest-scale k (negsuc n) d h = lowest-neg (pos (k * suc n)) (k * d) ∙ ap neg (scale-pos k (suc n) d h)

-- fractions that are equal crosswise have the same lowest terms
pub lowest-cross : (n m : ℤ) (d e : ℕ) → 0 < d → 0 < e → n *ℤ pos e ≡ m *ℤ pos d → lowest n d ≡ lowest m e
lowest-cross n m d e hd he x =
    sym (lowest-scale e n d he) ∙ ap₂ lowest (*ℤ_comm (pos e) n ∙ x ∙ *ℤ_comm m (pos d)) (mul_comm e d) ∙ lowest-scale d m e hd

-- what was divided out
record Parts (n : ℤ) (d : ℕ) : Type 0 where
  g : ℕ
  num : ℤ
  den : ℕ
  positive : 0 < g
  is : lowest n d ≡ frac num den
  above : n ≡ pos g *ℤ num
  below : d ≡ g * den

parts : (n : ℤ) (d : ℕ) → 0 < d → Parts n d
unfolding lowest
parts (pos n) d h = record {
  g = gcd n d;
  num = pos (n / gcd n d);
  den = d / gcd n d;
  positive = gcd-pos n d h;
  is = refl;
  above = ap pos (sym (mul-div_cancel' (gcd n d) (is-gcd n d).left));
  below = sym (mul-div_cancel' (gcd n d) (is-gcd n d).right);
}
parts (negsuc n) d h = record {
  g = gcd (suc n) d;
  num = neg_ℤ (pos (suc n / gcd (suc n) d));
  den = d / gcd (suc n) d;
  positive = gcd-pos (suc n) d h;
  is = refl;
  above =
      sym (*ℤ_comm (pos (gcd (suc n) d)) (neg_ℤ (pos (suc n / gcd (suc n) d))) ∙ neg-mul (pos (suc n / gcd (suc n) d)) (pos (gcd (suc n) d))
      ∙ ap (λ (x : ℕ). neg_ℤ (pos x)) (mul_comm (suc n / gcd (suc n) d) (gcd (suc n) d) ∙ mul-div_cancel' (gcd (suc n) d) (is-gcd (suc n) d).left));
  below = sym (mul-div_cancel' (gcd (suc n) d) (is-gcd (suc n) d).right);
}

factor-pos : (g d : ℕ) → 0 < g * d → 0 < d
factor-pos g zero h = absurd (omega arith)
factor-pos g (suc d) h = omega arith

-- what it means for the numerator and the denominator
pub record Terms (n : ℤ) (d : ℕ) : Type 0 where
  pub positive : 0 < d
  pub coprime : gcd (nat_abs n) d ≡ 1
  pub own : lowest n d ≡ frac n d

coprime-own : (n : ℤ) (d : ℕ) → gcd (nat_abs n) d ≡ 1 → lowest n d ≡ frac n d
unfolding lowest
coprime-own (pos n) d h = rw (h, div-one n, div-one d)
coprime-own (negsuc n) d h = rw (h, div-one (suc n), div-one d)

pub coprime-terms : (n : ℤ) (d : ℕ) → 0 < d → gcd (nat_abs n) d ≡ 1 → Terms n d
coprime-terms n d p h = record { positive = p; coprime = h; own = coprime-own n d h }

same-terms : (n : ℤ) (d : ℕ) → 0 < d → lowest n d ≡ frac n d → gcd (nat_abs n) d ≡ 1
unfolding lowest
same-terms (pos n) d h e =
    let en : n / gcd n d ≡ n = cc in
    let ed : d / gcd n d ≡ d = cc in
    ap₂ gcd (sym en) (sym ed) ∙ coprime n d h
same-terms (negsuc n) d h e =
    let g = gcd (suc n) d in
    let en : neg_ℤ (pos (suc n / g)) ≡ negsuc n = cc in
    let ed : d / g ≡ d = cc in
    ap₂ gcd (sym (sym (natAbs-neg (pos (suc n / g))) ∙ ap nat_abs en)) (sym ed) ∙ coprime (suc n) d h

-- both ways
pub lowest-terms : (n : ℤ) (d : ℕ) → Lowest (frac n d) → Terms n d
lowest-terms n d l = go (parts l.num l.den l.positive)
  where
    go : Parts l.num l.den → Terms n d
    go p =
        let e : frac n d ≡ frac p.num p.den = l.is ∙ p.is in
        let en : n ≡ p.num = cc in
        let ed : d ≡ p.den = cc in
        let above : l.num ≡ pos p.g *ℤ n = p.above ∙ ap (pos p.g *ℤ◌) (sym en) in
        let below : l.den ≡ p.g * d = p.below ∙ ap (p.g *◌) (sym ed) in
        let own : lowest n d ≡ frac n d = sym (lowest-scale p.g n d p.positive) ∙ ap₂ lowest (sym above) (sym below) ∙ sym l.is in
        let some : 0 < d = factor-pos p.g d (subst (λ (k : ℕ). 0 < k) below l.positive) in
        record { positive = some; coprime = same-terms n d some own; own = own }

pub terms-lowest : (n : ℤ) (d : ℕ) → Terms n d → Lowest (frac n d)
terms-lowest n d t = record { num = n; den = d; positive = t.positive; is = sym t.own }

-- ══ Sums and products of fractions, reduced before or after ══

module _ (n m : ℤ) (d e g h : ℕ) (n' m' : ℤ) (d' e' : ℕ) (gp : 0 < g) (hp : 0 < h)
    (nt : n ≡ pos g *ℤ n') (dt : d ≡ g * d') (mt : m ≡ pos h *ℤ m') (et : e ≡ h * e') where
  sum-scaled : lowest (n' *ℤ pos e' +ℤ m' *ℤ pos d') (d' * e') ≡ lowest (n *ℤ pos e +ℤ m *ℤ pos d) (d * e)
  sum-scaled =
      rw (nt, dt, mt, et)
      (sym (lowest-scale (g * h) (n' *ℤ pos e' +ℤ m' *ℤ pos d') (d' * e') (mul-pos gp hp))
      ∙ ap₂ lowest
      (distrib-left (pos (g * h)) (n' *ℤ pos e') (m' *ℤ pos d')
      ∙ ap₂ ◌+ℤ◌ (four (pos g) (pos h) n' (pos e')) (ap (◌*ℤ (m' *ℤ pos d')) (*ℤ_comm (pos g) (pos h)) ∙ four (pos h) (pos g) m' (pos d')))
      (mul-mul-mul_comm g h d' e'))

  product-scaled : lowest (n' *ℤ m') (d' * e') ≡ lowest (n *ℤ m) (d * e)
  product-scaled =
      rw (nt, dt, mt, et)
      (sym (lowest-scale (g * h) (n' *ℤ m') (d' * e') (mul-pos gp hp))
      ∙ ap₂ lowest (four (pos g) (pos h) n' m') (mul-mul-mul_comm g h d' e'))

module _ (n m : ℤ) (d e : ℕ) (h : 0 < d) (i : 0 < e) where
  pub plus-lowest : plus (lowest n d) (lowest m e) ≡ lowest (n *ℤ pos e +ℤ m *ℤ pos d) (d * e)
  unfolding plus
  plus-lowest = go (parts n d h) (parts m e i)
    where
      go : Parts n d → Parts m e → plus (lowest n d) (lowest m e) ≡ lowest (n *ℤ pos e +ℤ m *ℤ pos d) (d * e)
      go p q = ap₂ plus p.is q.is ∙ sum-scaled n m d e p.g q.g p.num q.num p.den q.den p.positive q.positive p.above p.below q.above q.below

  pub mul-lowest : mul (lowest n d) (lowest m e) ≡ lowest (n *ℤ m) (d * e)
  unfolding mul
  mul-lowest = go (parts n d h) (parts m e i)
    where
      go : Parts n d → Parts m e → mul (lowest n d) (lowest m e) ≡ lowest (n *ℤ m) (d * e)
      go p q = ap₂ mul p.is q.is ∙ product-scaled n m d e p.g q.g p.num q.num p.den q.den p.positive q.positive p.above p.below q.above q.below

-- ══ Results are in lowest terms ══

pub nought-lowest : Lowest nought
unfolding lowest gcd gcdIn
nought-lowest = record { num = pos 0; den = 1; positive = omega arith; is = refl }

pub one-lowest : Lowest one
unfolding lowest gcd gcdIn
one-lowest = record { num = pos 1; den = 1; positive = omega arith; is = refl }

pub neg-lowest : (a : Exp) → Lowest a → Lowest (neg a)
neg-lowest a p = record { num = neg_ℤ p.num; den = p.den; positive = p.positive; is = ap neg p.is ∙ sym (lowest-neg p.num p.den) }

module _ (a b : Exp) (p : Lowest a) (q : Lowest b) where
  pub plus-in-lowest : Lowest (plus a b)
  plus-in-lowest = record {
    num = p.num *ℤ pos q.den +ℤ q.num *ℤ pos p.den;
    den = p.den * q.den;
    positive = mul-pos p.positive q.positive;
    is = ap₂ plus p.is q.is ∙ plus-lowest p.num q.num p.den q.den p.positive q.positive;
  }

  pub mul-in-lowest : Lowest (mul a b)
  mul-in-lowest = record {
    num = p.num *ℤ q.num;
    den = p.den * q.den;
    positive = mul-pos p.positive q.positive;
    is = ap₂ mul p.is q.is ∙ mul-lowest p.num q.num p.den q.den p.positive q.positive;
  }

pub inverted-lowest : (a b : Exp) → Lowest a → inverted a ≡ some b → Lowest b
unfolding inverted
inverted-lowest (frac (pos zero) d) b l e = absurd (cc)
inverted-lowest (frac (pos (suc n)) d) b l e =
    let t = lowest-terms (pos (suc n)) d l in
    let is : frac (pos d) (suc n) ≡ b = cc in
    subst Lowest is (terms-lowest (pos d) (suc n) (coprime-terms (pos d) (suc n) (omega arith) (gcd-comm d (suc n) ∙ t.coprime)))
inverted-lowest (frac (negsuc n) d) b l e =
    let t = lowest-terms (negsuc n) d l in
    let is : frac (neg_ℤ (pos d)) (suc n) ≡ b = cc in
    subst Lowest is
    (terms-lowest (neg_ℤ (pos d)) (suc n)
    (coprime-terms (neg_ℤ (pos d)) (suc n) (omega arith) (ap (λ (k : ℕ). gcd k (suc n)) (natAbs-neg (pos d)) ∙ gcd-comm d (suc n) ∙ t.coprime)))

-- ══ A field ══

pub plus_comm : (a b : Exp) → plus a b ≡ plus b a
unfolding plus
plus_comm (frac n d) (frac m e) = ap₂ lowest (+ℤ_comm (n *ℤ pos e) (m *ℤ pos d)) (mul_comm d e)

pub mul-comm' : (a b : Exp) → mul a b ≡ mul b a
unfolding mul
mul-comm' (frac n d) (frac m e) = ap₂ lowest (*ℤ_comm n m) (mul_comm d e)

regroup : (n m k d e f : ℤ) → (n *ℤ e +ℤ m *ℤ d) *ℤ f +ℤ k *ℤ (d *ℤ e) ≡ n *ℤ (e *ℤ f) +ℤ (m *ℤ f +ℤ k *ℤ e) *ℤ d
regroup n m k d e f =
    ap (◌+ℤ k *ℤ (d *ℤ e)) (distrib (n *ℤ e) (m *ℤ d) f)
    ∙ +ℤ_assoc (n *ℤ e *ℤ f) (m *ℤ d *ℤ f) (k *ℤ (d *ℤ e))
    ∙ ap₂ ◌+ℤ◌ (assoc n e f) (ap₂ ◌+ℤ◌ (middle m d f) (sym (assoc k d e) ∙ middle k d e) ∙ sym (distrib (m *ℤ f) (k *ℤ e) d))

-- the same, with the first denominator once more
spread : (n m k d e f : ℤ) → d *ℤ (n *ℤ (m *ℤ f +ℤ k *ℤ e)) ≡ n *ℤ m *ℤ (d *ℤ f) +ℤ n *ℤ k *ℤ (d *ℤ e)
spread n m k d e f =
    ap (d *ℤ◌) (distrib-left n (m *ℤ f) (k *ℤ e))
    ∙ distrib-left d (n *ℤ (m *ℤ f)) (n *ℤ (k *ℤ e))
    ∙ ap₂ ◌+ℤ◌ (turned m f) (turned k e)
  where
    turned : (m f : ℤ) → d *ℤ (n *ℤ (m *ℤ f)) ≡ n *ℤ m *ℤ (d *ℤ f)
    turned m f = *ℤ_comm d (n *ℤ (m *ℤ f)) ∙ ap (◌*ℤ d) (sym (assoc n m f)) ∙ assoc (n *ℤ m) f d ∙ ap (n *ℤ m *ℤ◌) (*ℤ_comm f d)

module _ (n m k : ℤ) (d e f : ℕ) (hd : 0 < d) (he : 0 < e) (hf : 0 < f) where
  plus-assoc-of : plus (plus (lowest n d) (lowest m e)) (lowest k f) ≡ plus (lowest n d) (plus (lowest m e) (lowest k f))
  plus-assoc-of =
      ap (λ (x : Exp). plus x (lowest k f)) (plus-lowest n m d e hd he)
      ∙ plus-lowest (n *ℤ pos e +ℤ m *ℤ pos d) k (d * e) f (mul-pos hd he) hf
      ∙ ap₂ lowest (regroup n m k (pos d) (pos e) (pos f)) (mul_assoc d e f)
      ∙ sym (plus-lowest n (m *ℤ pos f +ℤ k *ℤ pos e) d (e * f) hd (mul-pos he hf))
      ∙ ap (plus (lowest n d)) (sym (plus-lowest m k e f he hf))

  mul-assoc-of : mul (mul (lowest n d) (lowest m e)) (lowest k f) ≡ mul (lowest n d) (mul (lowest m e) (lowest k f))
  mul-assoc-of =
      ap (λ (x : Exp). mul x (lowest k f)) (mul-lowest n m d e hd he)
      ∙ mul-lowest (n *ℤ m) k (d * e) f (mul-pos hd he) hf
      ∙ ap₂ lowest (assoc n m k) (mul_assoc d e f)
      ∙ sym (mul-lowest n (m *ℤ k) d (e * f) hd (mul-pos he hf))
      ∙ ap (mul (lowest n d)) (sym (mul-lowest m k e f he hf))

  mul-plus-of : mul (lowest n d) (plus (lowest m e) (lowest k f)) ≡ plus (mul (lowest n d) (lowest m e)) (mul (lowest n d) (lowest k f))
  mul-plus-of =
      ap (mul (lowest n d)) (plus-lowest m k e f he hf)
      ∙ mul-lowest n (m *ℤ pos f +ℤ k *ℤ pos e) d (e * f) hd (mul-pos he hf)
      ∙ sym (lowest-scale d (n *ℤ (m *ℤ pos f +ℤ k *ℤ pos e)) (d * (e * f)) hd)
      ∙ ap₂ lowest (spread n m k (pos d) (pos e) (pos f)) (ap (d *◌) (mul_left_comm d e f) ∙ sym (mul_assoc d e (d * f)))
      ∙ sym (plus-lowest (n *ℤ m) (n *ℤ k) (d * e) (d * f) (mul-pos hd he) (mul-pos hd hf))
      ∙ ap₂ plus (sym (mul-lowest n m d e hd he)) (sym (mul-lowest n k d f hd hf))

module _ (a b c : Exp) (p : Lowest a) (q : Lowest b) (r : Lowest c) where
  pub plus_assoc : plus (plus a b) c ≡ plus a (plus b c)
  plus_assoc = rw (p.is, q.is, r.is) (plus-assoc-of p.num q.num r.num p.den q.den r.den p.positive q.positive r.positive)

  pub mul-assoc' : mul (mul a b) c ≡ mul a (mul b c)
  mul-assoc' = rw (p.is, q.is, r.is) (mul-assoc-of p.num q.num r.num p.den q.den r.den p.positive q.positive r.positive)

  pub mul-plus : mul a (plus b c) ≡ plus (mul a b) (mul a c)
  mul-plus = rw (p.is, q.is, r.is) (mul-plus-of p.num q.num r.num p.den q.den r.den p.positive q.positive r.positive)

-- a fraction whose numerator is 0
pub lowest-nought : (d : ℕ) → 0 < d → lowest (pos 0) d ≡ nought
lowest-nought d h =
    let t = lowest-terms (pos 0) 1 nought-lowest in
    lowest-cross (pos 0) (pos 0) d 1 h (omega arith) (zero-*ℤ (pos 1) ∙ sym (zero-*ℤ (pos d))) ∙ t.own

pub plus-nought : (a : Exp) → Lowest a → plus a nought ≡ a
unfolding plus
plus-nought (frac n d) l =
    ap₂ lowest (ap₂ ◌+ℤ◌ (times-one n) (zero-*ℤ (pos d)) ∙ +ℤ_idr n) (mul-one d) ∙ (lowest-terms n d l).own

pub plus-neg : (a : Exp) → Lowest a → plus a (neg a) ≡ nought
unfolding plus neg
plus-neg (frac n d) l =
    let h = (lowest-terms n d l).positive in
    ap (λ (x : ℤ). lowest x (d * d)) (sym (distrib n (neg_ℤ n) (pos d)) ∙ ap (◌*ℤ pos d) (+ℤ_invr n) ∙ zero-*ℤ (pos d))
    ∙ lowest-nought (d * d) (mul-pos h h)

pub mul-one' : (a : Exp) → Lowest a → mul a one ≡ a
unfolding mul
mul-one' (frac n d) l = ap₂ lowest (times-one n) (mul-one d) ∙ (lowest-terms n d l).own

lowest-one : (k : ℕ) → 0 < k → lowest (pos k) k ≡ one
lowest-one k h =
    let t = lowest-terms (pos 1) 1 one-lowest in
    lowest-cross (pos k) (pos 1) k 1 h (omega arith) (*ℤ_comm (pos k) (pos 1)) ∙ t.own

-- what has an inverse, and what hasn't
pub mul-inverted : (a b : Exp) → Lowest a → inverted a ≡ some b → mul a b ≡ one
unfolding inverted mul
mul-inverted (frac (pos zero) d) b l e = absurd (cc)
mul-inverted (frac (pos (suc n)) d) b l e =
    let h = (lowest-terms (pos (suc n)) d l).positive in
    let is : frac (pos d) (suc n) ≡ b = cc in
    ap (mul (frac (pos (suc n)) d)) (sym is) ∙ ap (λ (k : ℕ). lowest (pos k) (d * suc n)) (mul_comm (suc n) d)
    ∙ lowest-one (d * suc n) (mul-pos h (omega arith))
mul-inverted (frac (negsuc n) d) b l e =
    let h = (lowest-terms (negsuc n) d l).positive in
    let is : frac (neg_ℤ (pos d)) (suc n) ≡ b = cc in
    ap (mul (frac (negsuc n) d)) (sym is)
    ∙ ap (λ (x : ℤ). lowest x (d * suc n))
    (*ℤ_comm (negsuc n) (neg_ℤ (pos d)) ∙ neg-mul (pos d) (negsuc n) ∙ ap neg_ℤ (*ℤ_comm (pos d) (negsuc n)) ∙ neg_ℤ-neg_ℤ (pos (suc n * d))
    ∙ ap pos (mul_comm (suc n) d))
    ∙ lowest-one (d * suc n) (mul-pos h (omega arith))

pub inverted-none : (a : Exp) → Lowest a → inverted a ≡ none → a ≡ nought
unfolding inverted
inverted-none (frac (pos zero) d) l e =
    let t = lowest-terms (pos 0) d l in
    sym t.own ∙ lowest-nought d t.positive
inverted-none (frac (pos (suc n)) d) l e = absurd (cc)
inverted-none (frac (negsuc n) d) l e = absurd (cc)

pub zero-is-nought : (a : Exp) → Lowest a → isZero a ≡ true → a ≡ nought
zero-is-nought (frac (pos n) d) l e =
    let t = lowest-terms (pos n) d l in
    let z : n ≡ 0 = eqb-true n 0 e in
    sym t.own ∙ ap (λ (k : ℕ). lowest (pos k) d) z ∙ lowest-nought d t.positive
zero-is-nought (frac (negsuc n) d) l e = absurd (omega (arith, eqb-true (suc n) 0 e))

-- ══ What follows of a field ══

pub neg-zero : (e : Exp) → isZero (neg e) ≡ isZero e
unfolding neg
neg-zero (frac n d) = rw (natAbs-neg n)

pub mul-nought : (a : Exp) → Lowest a → mul a nought ≡ nought
unfolding mul
mul-nought (frac n d) l = ap₂ lowest (*ℤ-zero n) (mul-one d) ∙ lowest-nought d (lowest-terms n d l).positive

pub nought-mul : (a : Exp) → Lowest a → mul nought a ≡ nought
nought-mul a l = mul-comm' nought a ∙ mul-nought a l

pub nought-plus : (a : Exp) → Lowest a → plus nought a ≡ a
nought-plus a l = plus_comm nought a ∙ plus-nought a l

pub plus-mul : (a b c : Exp) → Lowest a → Lowest b → Lowest c → mul (plus a b) c ≡ plus (mul a c) (mul b c)
plus-mul a b c l m n = mul-comm' (plus a b) c ∙ mul-plus c a b n l m ∙ ap₂ plus (mul-comm' c a) (mul-comm' c b)

pub mul-neg : (a b : Exp) → mul a (neg b) ≡ neg (mul a b)
unfolding mul neg
mul-neg (frac n d) (frac m e) = ap (λ (x : ℤ). lowest x (d * e)) (*ℤ_comm n (neg_ℤ m) ∙ neg-mul m n ∙ ap neg_ℤ (*ℤ_comm m n)) ∙ lowest-neg (n *ℤ m) (d * e)

pub neg-neg : (a : Exp) → neg (neg a) ≡ a
unfolding neg
neg-neg (frac n d) = ap (λ (x : ℤ). frac x d) (neg_ℤ-neg_ℤ n)
