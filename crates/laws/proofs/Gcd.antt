-- What the greatest common divisor of the rules is: the one number that divides both and that every common divisor divides.
use Rattle.std.specs.Prelude.{◌≡◌, refl, ℕ, zero, suc, ◌+◌, ◌*◌, ◌/◌, ◌%◌, ◌<◌}
use Rattle.std.proofs.Common.{ap, ap₂, ◌∙◌, sym, mul-add, mul_assoc, mul-one, mul-zero, mod-lt, mul-pos, arith}
use Rattle.std.specs.Int.{◌∣◌}
use Rattle.std.proofs.Math.Nat.{
  div-add-mod,
  mul-div-mul_left,
  dvd_refl,
  dvd-zero,
  dvd-mod_iff,
  dvd_antisymm,
  mul-div_cancel',
  pos_of_dvd_of_pos,
  eq_of_mul-eq-mul_left,
}
use Rattle.rules.specs.Exponents.{gcdIn, gcd}

-- g divides both, and whatever divides both divides g
pub record IsGcd (a b g : ℕ) : Type 0 where
  pub left : g ∣ a
  pub right : g ∣ b
  pub most : (d : ℕ) → d ∣ a → d ∣ b → d ∣ g

-- there is one only
pub one-gcd : {a b g h : ℕ} → IsGcd a b g → IsGcd a b h → g ≡ h
one-gcd {a} {b} {g} {h} p q = dvd_antisymm (q.most g p.left p.right) (p.most h q.left q.right)

is-gcd-in : (k a b : ℕ) → b < k → IsGcd a b (gcdIn k a b)
unfolding gcdIn
is-gcd-in zero a b h = absurd (omega arith)
is-gcd-in (suc k) a zero h = record { left = dvd_refl a; right = dvd-zero a; most = λ d p q. p }
is-gcd-in (suc k) a (suc b) h =
    let r : a % suc b < suc b = mod-lt a (omega arith) in
    let i = is-gcd-in k (suc b) (a % suc b) (omega arith) in
    record {
      left = (dvd-mod_iff _ i.left).0 i.right;
      right = i.left;
      most = λ d p q. i.most d q ((dvd-mod_iff d q).1 p);
    }

pub is-gcd : (a b : ℕ) → IsGcd a b (gcd a b)
unfolding gcd
is-gcd a b = is-gcd-in (suc b) a b (omega arith)

pub gcd-comm : (a b : ℕ) → gcd a b ≡ gcd b a
gcd-comm a b =
    let i = is-gcd b a in
    one-gcd (is-gcd a b) (record { left = i.right; right = i.left; most = λ d p q. i.most d q p })

-- Euclid's step, and where it ends
pub gcd-step : (a b : ℕ) → 0 < b → gcd a b ≡ gcd b (a % b)
gcd-step a b h =
    let i = is-gcd b (a % b) in
    one-gcd (is-gcd a b) (record {
      left = (dvd-mod_iff _ i.left).0 i.right;
      right = i.left;
      most = λ d p q. i.most d q ((dvd-mod_iff d q).1 p);
    })

pub gcd-end : (a : ℕ) → gcd a 0 ≡ a
unfolding gcd gcdIn
gcd-end a = refl

pub gcd-pos : (a b : ℕ) → 0 < b → 0 < gcd a b
gcd-pos a b h = pos_of_dvd_of_pos (is-gcd a b).right h

-- a common factor comes out
mod-scale : (k a b : ℕ) → 0 < k → (k * a) % (k * b) ≡ k * (a % b)
mod-scale k a b h =
    let e1 : k * b * (a / b) + (k * a) % (k * b) ≡ k * a = rw (mul-div-mul_left a b h) at (div-add-mod (k * a) (k * b)) in
    let e2 : k * (b * (a / b)) + k * (a % b) ≡ k * a = rw mul-add at (ap (k *◌) (div-add-mod a b)) in
    omega (arith, mul_assoc k b (a / b))

module _ (k : ℕ) (h : 0 < k) where
  scale : (f a b : ℕ) → b < f → gcd (k * a) (k * b) ≡ k * gcd a b
  scale zero a b l = absurd (omega arith)
  scale (suc f) a zero l = ap (gcd (k * a)) (mul-zero k) ∙ gcd-end (k * a) ∙ ap (k *◌) (sym (gcd-end a))
  scale (suc f) a (suc b) l =
      let r : a % suc b < suc b = mod-lt a (omega arith) in
      gcd-step (k * a) (k * suc b) (mul-pos h (omega arith))
      ∙ ap (gcd (k * suc b)) (mod-scale k a (suc b) h)
      ∙ scale f (suc b) (a % suc b) (omega arith)
      ∙ ap (k *◌) (sym (gcd-step a (suc b) (omega arith)))

  pub gcd-scale : (a b : ℕ) → gcd (k * a) (k * b) ≡ k * gcd a b
  gcd-scale a b = scale (suc b) a b (omega arith)

-- what is left after dividing by it has no common divisor
pub coprime : (a b : ℕ) → 0 < b → gcd (a / gcd a b) (b / gcd a b) ≡ 1
coprime a b h =
    let g = gcd a b in
    eq_of_mul-eq-mul_left g (gcd-pos a b h) (gcd (a / g) (b / g)) 1
    (sym (gcd-scale g (gcd-pos a b h) (a / g) (b / g))
    ∙ ap₂ gcd (mul-div_cancel' g (is-gcd a b).left) (mul-div_cancel' g (is-gcd a b).right)
    ∙ sym (mul-one g))
