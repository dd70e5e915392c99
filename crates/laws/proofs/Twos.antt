-- What follows from the definitions of specs/Twos: factors 2: what is left of a number without them, and what they do to a greatest common divisor.
use Rattle.std.specs.Prelude.{◌≡◌, refl, ℕ, zero, suc, ◌+◌, ◌-◌, ◌*◌, ◌/◌, ◌%◌, ◌^◌, ◌≤◌, ◌<◌, min, max}
use Rattle.std.proofs.Common.{
  ap,
  ap₂,
  ◌∙◌,
  sym,
  subst,
  add-mul,
  mul-le-mul_left,
  lt_of_le_of_lt,
  mul_assoc,
  mul_comm,
  mul_left_comm,
  mul-one,
  zero-mul,
  pow-suc,
  mod-eq_of_lt,
  div-one,
  arith,
  pow-add,
  pow_pos,
}
use Rattle.std.specs.Int.{◌∣◌}
use Rattle.std.proofs.Math.Nat.{
  min-eq_left,
  min-eq_right,
  max-eq_left,
  max-eq_right,
  eq-one_of_dvd-one,
  le_of_dvd,
  div-div-eq-div-mul,
  div-add-mod,
  mul-div_cancel',
  dvd-mul_right,
  dvd-mul_right_of_dvd,
  dvd_refl,
  dvd-sub,
  dvd-add,
}
use Rattle.std.proofs.Math.Decide.{dec_le}
use Rattle.std.specs.Int.Count.{count_trailing_zeros, under}
use Rattle.rules.specs.Exponents.{gcd}
use Rattle.laws.proofs.Gcd.{one-gcd, is-gcd, gcd-comm, gcd-scale}
use Rattle.laws.specs.Twos.{WithoutTwos}

-- it is no larger
pub without-le : {n m : ℕ} → WithoutTwos n m → m ≤ n
without-le {n} {m} w = let h = mul-le-mul_left m (pow_pos w.twos) in omega (arith, mul-one m, w.is)

-- ══ As many as the digits 0 at a number's end ══

-- t shifts leave n without its factors 2
pub record Shifted (n t : ℕ) : Type 0 where
  pub is : n / 2 ^ t * 2 ^ t ≡ n
  pub odd : n / 2 ^ t % 2 ≡ 1

-- a number whose last digit is 0: one more than its half has
shifted_even : (n t : ℕ) → n % 2 ≡ 0 → Shifted (n / 2) t → Shifted n (suc t)
shifted_even n t e s =
    let p : 2 ^ suc t ≡ 2 * 2 ^ t = pow-suc 2 t ∙ mul_comm (2 ^ t) 2 in
    let q : n / 2 ^ suc t ≡ n / 2 / 2 ^ t = ap (λ (x : ℕ). n / x) p ∙ sym (div-div-eq-div-mul n 2 (2 ^ t)) in
    record {
      is = ap₂ (λ (x y : ℕ). x * y) q p ∙ mul_left_comm (n / 2 / 2 ^ t) 2 (2 ^ t) ∙ ap (λ (x : ℕ). 2 * x) s.is ∙ omega arith;
      odd = ap (λ (x : ℕ). x % 2) q ∙ s.odd;
    }

pub trailing : (k n : ℕ) → 0 < n → n < 2 ^ k → Shifted n (count_trailing_zeros k n)
unfolding count_trailing_zeros
trailing zero n p l = absurd (omega arith)
trailing (suc k) n p l = go (n % 2) refl (λ (e : n % 2 ≡ 0). trailing k (n / 2) (omega arith) (let q : n < 2 ^ k * 2 = rw pow-suc at l in omega arith))
  where
    go : (r : ℕ) → n % 2 ≡ r → (n % 2 ≡ 0 → Shifted (n / 2) (count_trailing_zeros k (n / 2))) → Shifted n (under r (count_trailing_zeros k (n / 2)))
    go zero e ih = shifted_even n (count_trailing_zeros k (n / 2)) e (ih e)
    go (suc r) e ih = record { is = mul-one (n / 1) ∙ div-one n; odd = ap (λ (x : ℕ). x % 2) (div-one n) ∙ omega arith }

-- ══ In a greatest common divisor ══

-- what divides an odd number is odd
divides-odd : (d a : ℕ) → a % 2 ≡ 1 → d ∣ a → d % 2 ≡ 1
divides-odd d a o h =
    let q = a / d in
    let e : (2 * (d / 2) + d % 2) * q ≡ a = ap (λ (x : ℕ). x * q) (div-add-mod d 2) ∙ mul-div_cancel' d h in
    go (d % 2) refl (omega (arith, add-mul (2 * (d / 2)) (d % 2) q, mul_assoc 2 (d / 2) q))
  where
    go : (r : ℕ) → d % 2 ≡ r → 2 * (d / 2 * (a / d)) + d % 2 * (a / d) ≡ a → d % 2 ≡ 1
    go zero e k = absurd (let z : d % 2 * (a / d) ≡ 0 = ap (λ (x : ℕ). x * (a / d)) e ∙ zero-mul (a / d) in omega arith)
    go (suc r) e k = omega arith

-- an odd number that divides a double divides its half
odd-divides : (d m : ℕ) → d % 2 ≡ 1 → d ∣ m * 2 → d ∣ m
odd-divides d m o h =
    let q = m * 2 / d in
    let e : d * q ≡ m * 2 = mul-div_cancel' d h in
    let s : d ≡ 2 * (d / 2) + 1 = omega arith in
    let f : (2 * (d / 2) + 1) * q ≡ m * 2 = ap (λ (x : ℕ). x * q) (sym s) ∙ e in
    let g : 2 * (d / 2 * q) + q ≡ m * 2 = omega (arith, add-mul (2 * (d / 2)) 1 q, mul_assoc 2 (d / 2) q) in
    let even : 2 * (q / 2) ≡ q = omega arith in
    let i : 2 * (d * (q / 2)) ≡ m * 2 = mul_left_comm 2 d (q / 2) ∙ ap (λ (x : ℕ). d * x) even ∙ e in
    subst (λ (x : ℕ). d ∣ x) (let j : d * (q / 2) ≡ m = omega arith in j) (dvd-mul_right d (q / 2))

gcd-double : (a m : ℕ) → a % 2 ≡ 1 → gcd a (m * 2) ≡ gcd a m
gcd-double a m o =
    let i = is-gcd a (m * 2) in
    let j = is-gcd a m in
    one-gcd i (record {
      left = j.left;
      right = dvd-mul_right_of_dvd _ j.right 2;
      most = λ d p q. j.most d p (odd-divides d m (divides-odd d a o p) q);
    })

pub gcd-twos : (t a m : ℕ) → a % 2 ≡ 1 → gcd a (m * 2 ^ t) ≡ gcd a m
gcd-twos zero a m o = ap (gcd a) (mul-one m)
gcd-twos (suc t) a m o =
    ap (gcd a) (ap (λ (x : ℕ). m * x) (pow-suc 2 t) ∙ sym (mul_assoc m (2 ^ t) 2)) ∙ gcd-double a (m * 2 ^ t) o ∙ gcd-twos t a m o

-- the smaller may be taken off the larger
pub gcd-less : (a b : ℕ) → a ≤ b → gcd a (b - a) ≡ gcd a b
gcd-less a b l =
    let i = is-gcd a (b - a) in
    let s : b - a + a ≡ b = omega arith in
    one-gcd i (record {
      left = (is-gcd a b).left;
      right = dvd-sub _ (is-gcd a b).right (is-gcd a b).left;
      most = λ d p q. (is-gcd a b).most d p (subst (λ (x : ℕ). d ∣ x) s (dvd-add d q p));
    })

pub gcd-self : (a : ℕ) → gcd a a ≡ a
gcd-self a = one-gcd (is-gcd a a) (record { left = dvd_refl a; right = dvd_refl a; most = λ d p q. p })

-- one step on odd numbers
odd_step : {a b m : ℕ} → a % 2 ≡ 1 → a ≤ b → WithoutTwos (b - a) m → gcd m a ≡ gcd a b
odd_step {a} {b} {m} o l w = gcd-comm m a ∙ sym (gcd-twos w.twos a m o) ∙ ap (gcd a) w.is ∙ gcd-less a b l

pub gcd-odd-step : (a b : ℕ) {m : ℕ} → a % 2 ≡ 1 → b % 2 ≡ 1 → WithoutTwos (max a b - min a b) m → gcd m (min a b) ≡ gcd a b
gcd-odd-step a b {m} o p w = go (dec_le a b)
  where
    go : Dec (a ≤ b) → gcd m (min a b) ≡ gcd a b
    go (yes l) =
        let v : WithoutTwos (b - a) m = rw (max-eq_right l, min-eq_left l) at w in
        ap (gcd m) (min-eq_left l) ∙ odd_step o l v
    go (no n) =
        let l : b ≤ a = omega arith in
        let v : WithoutTwos (a - b) m = rw (max-eq_left l, min-eq_right l) at w in
        ap (gcd m) (min-eq_right l) ∙ odd_step p l v ∙ gcd-comm b a

-- the smaller of two odd numbers is odd
pub min-odd : (a b : ℕ) → a % 2 ≡ 1 → b % 2 ≡ 1 → min a b % 2 ≡ 1
min-odd a b o p = go (dec_le a b)
  where
    go : Dec (a ≤ b) → min a b % 2 ≡ 1
    go (yes l) = rw (min-eq_left l) o
    go (no n) = let l : b ≤ a = omega arith in rw (min-eq_right l) p

pub gcd-one : (a : ℕ) → gcd a 1 ≡ 1
gcd-one a = eq-one_of_dvd-one (is-gcd a 1).right

-- common factors 2 come out, and the others don't count
pub gcd-apart : (i j x y : ℕ) → x % 2 ≡ 1 → i ≤ j → gcd (x * 2 ^ i) (y * 2 ^ j) ≡ gcd x y * 2 ^ i
gcd-apart i j x y o l =
    let p : y * 2 ^ j ≡ 2 ^ i * (y * 2 ^ (j - i)) = ap (λ (k : ℕ). y * 2 ^ k) (let e : j ≡ i + (j - i) = omega arith in e)
    ∙ ap (λ (k : ℕ). y * k) (pow-add 2 i (j - i)) ∙ mul_left_comm y (2 ^ i) (2 ^ (j - i)) in
    ap₂ gcd (mul_comm x (2 ^ i)) p
    ∙ gcd-scale (2 ^ i) (pow_pos i) x (y * 2 ^ (j - i))
    ∙ ap (λ (k : ℕ). 2 ^ i * k) (gcd-twos (j - i) x y o)
    ∙ mul_comm (2 ^ i) (gcd x y)

-- the same of numbers that were shifted; the result is no longer than a number that isn't 0
module _ {a b i j : ℕ} (s : Shifted a i) (t : Shifted b j) where
  pub gcd-shifted : i ≤ j → gcd (a / 2 ^ i) (b / 2 ^ j) * 2 ^ i ≡ gcd a b
  gcd-shifted l = sym (gcd-apart i j (a / 2 ^ i) (b / 2 ^ j) s.odd l) ∙ ap₂ gcd s.is t.is

pub gcd-shifted-right : {a b i j : ℕ} → Shifted a i → Shifted b j → j ≤ i → gcd (a / 2 ^ i) (b / 2 ^ j) * 2 ^ j ≡ gcd a b
gcd-shifted-right {a} {b} {i} {j} s t l = ap (λ (x : ℕ). x * 2 ^ j) (gcd-comm (a / 2 ^ i) (b / 2 ^ j)) ∙ gcd-shifted t s l ∙ gcd-comm b a

pub gcd-fits : (k a b : ℕ) → 0 < a → a < 2 ^ k → gcd a b % 2 ^ k ≡ gcd a b
gcd-fits k a b p l = mod-eq_of_lt (lt_of_le_of_lt (le_of_dvd p (is-gcd a b).left) l)
