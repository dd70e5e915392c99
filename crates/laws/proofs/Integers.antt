-- Whole numbers: laws of the product that the library lacks, and magnitudes.
use Rattle.std.specs.Prelude.{◌≡◌, refl, ℕ, zero, suc, ◌+◌, ◌*◌, ◌≤◌, ◌<◌, ℤ, pos, negsuc, neg_ℤ, nat_abs, ◌+ℤ◌, ◌*ℤ◌}
use Rattle.std.proofs.Common.{ap, ap₂, ◌∙◌, sym, mul-one, arith, lt-ltb, le-ltb}
use Rattle.std.proofs.Math.Decide.{dec_lt}
use Rattle.std.proofs.Math.IntN.{sub_ℕ, neg_ℤ-neg_ℤ, suc_ℤ, pred_ℤ, +ℤ_idl, +ℤ_assoc, +ℤ_comm, zero-*ℤ, suc_ℤ-*ℤ, pred_ℤ-*ℤ, suc_ℤ-+ℤ, pred_ℤ-+ℤ, *ℤ_comm}

swap : (x y z : ℤ) → x +ℤ y +ℤ z ≡ x +ℤ z +ℤ y
swap x y z = +ℤ_assoc x y z ∙ ap (x +ℤ◌) (+ℤ_comm y z) ∙ sym (+ℤ_assoc x z y)

abbrev Distrib : ℤ → ℤ → ℤ → Type 0
Distrib a b c = (a +ℤ b) *ℤ c ≡ a *ℤ c +ℤ b *ℤ c

dist-zero : (b c : ℤ) → Distrib (pos zero) b c
dist-zero b c = ap (◌*ℤ c) (+ℤ_idl b) ∙ sym (+ℤ_idl (b *ℤ c)) ∙ ap (◌+ℤ b *ℤ c) (sym (zero-*ℤ c))

dist-suc : (a b c : ℤ) → Distrib a b c → Distrib (suc_ℤ a) b c
dist-suc a b c h =
    ap (◌*ℤ c) (suc_ℤ-+ℤ a b) ∙ suc_ℤ-*ℤ (a +ℤ b) c ∙ ap (◌+ℤ c) h ∙ swap (a *ℤ c) (b *ℤ c) c ∙ ap (◌+ℤ b *ℤ c) (sym (suc_ℤ-*ℤ a c))

dist-pred : (a b c : ℤ) → Distrib a b c → Distrib (pred_ℤ a) b c
dist-pred a b c h =
    ap (◌*ℤ c) (pred_ℤ-+ℤ a b) ∙ pred_ℤ-*ℤ (a +ℤ b) c ∙ ap (◌+ℤ neg_ℤ c) h ∙ swap (a *ℤ c) (b *ℤ c) (neg_ℤ c) ∙ ap (◌+ℤ b *ℤ c) (sym (pred_ℤ-*ℤ a c))

pub distrib : (a b c : ℤ) → (a +ℤ b) *ℤ c ≡ a *ℤ c +ℤ b *ℤ c
distrib (pos zero) b c = dist-zero b c
distrib (pos (suc n)) b c = dist-suc (pos n) b c (distrib (pos n) b c)
distrib (negsuc zero) b c = dist-pred (pos zero) b c (dist-zero b c)
distrib (negsuc (suc n)) b c = dist-pred (negsuc n) b c (distrib (negsuc n) b c)

pub distrib-left : (a b c : ℤ) → a *ℤ (b +ℤ c) ≡ a *ℤ b +ℤ a *ℤ c
distrib-left a b c = *ℤ_comm a (b +ℤ c) ∙ distrib b c a ∙ ap₂ ◌+ℤ◌ (*ℤ_comm b a) (*ℤ_comm c a)

pub neg-mul : (b c : ℤ) → neg_ℤ b *ℤ c ≡ neg_ℤ (b *ℤ c)
neg-mul (pos zero) c = zero-*ℤ c ∙ sym (ap neg_ℤ (zero-*ℤ c))
neg-mul (pos (suc n)) (pos m) = refl
neg-mul (pos (suc n)) (negsuc m) = sym (neg_ℤ-neg_ℤ _)
neg-mul (negsuc n) (pos m) = sym (neg_ℤ-neg_ℤ _)
neg-mul (negsuc n) (negsuc m) = refl

abbrev Assoc : ℤ → ℤ → ℤ → Type 0
Assoc a b c = a *ℤ b *ℤ c ≡ a *ℤ (b *ℤ c)

assoc-suc : (a b c : ℤ) → Assoc a b c → Assoc (suc_ℤ a) b c
assoc-suc a b c h = ap (◌*ℤ c) (suc_ℤ-*ℤ a b) ∙ distrib (a *ℤ b) b c ∙ ap (◌+ℤ b *ℤ c) h ∙ sym (suc_ℤ-*ℤ a (b *ℤ c))

assoc-pred : (a b c : ℤ) → Assoc a b c → Assoc (pred_ℤ a) b c
assoc-pred a b c h = ap (◌*ℤ c) (pred_ℤ-*ℤ a b) ∙ distrib (a *ℤ b) (neg_ℤ b) c ∙ ap₂ ◌+ℤ◌ h (neg-mul b c) ∙ sym (pred_ℤ-*ℤ a (b *ℤ c))

assoc-zero : (b c : ℤ) → Assoc (pos zero) b c
assoc-zero b c = ap (◌*ℤ c) (zero-*ℤ b) ∙ zero-*ℤ c ∙ sym (zero-*ℤ (b *ℤ c))

pub assoc : (a b c : ℤ) → a *ℤ b *ℤ c ≡ a *ℤ (b *ℤ c)
assoc (pos zero) b c = assoc-zero b c
assoc (pos (suc n)) b c = assoc-suc (pos n) b c (assoc (pos n) b c)
assoc (negsuc zero) b c = assoc-pred (pos zero) b c (assoc-zero b c)
assoc (negsuc (suc n)) b c = assoc-pred (negsuc n) b c (assoc (negsuc n) b c)

pub times-one : (a : ℤ) → a *ℤ pos 1 ≡ a
times-one (pos n) = ap pos (mul-one n)
times-one (negsuc n) = ap (λ (k : ℕ). neg_ℤ (pos k)) (mul-one (suc n))

-- b and c change places
pub middle : (a b c : ℤ) → a *ℤ b *ℤ c ≡ a *ℤ c *ℤ b
middle a b c = assoc a b c ∙ ap (a *ℤ◌) (*ℤ_comm b c) ∙ sym (assoc a c b)

pub four : (a b c d : ℤ) → a *ℤ b *ℤ (c *ℤ d) ≡ a *ℤ c *ℤ (b *ℤ d)
four a b c d = sym (assoc (a *ℤ b) c d) ∙ ap (◌*ℤ d) (middle a b c) ∙ assoc (a *ℤ c) b d

-- ══ Magnitudes ══

pub natAbs-neg : (z : ℤ) → nat_abs (neg_ℤ z) ≡ nat_abs z
natAbs-neg (pos zero) = refl
natAbs-neg (pos (suc n)) = refl
natAbs-neg (negsuc n) = refl

pub nat_abs_mul : (x y : ℤ) → nat_abs (x *ℤ y) ≡ nat_abs x * nat_abs y
nat_abs_mul (pos m) (pos n) = refl
nat_abs_mul (pos m) (negsuc n) = natAbs-neg (pos (m * suc n))
nat_abs_mul (negsuc m) (pos n) = natAbs-neg (pos (suc m * n))
nat_abs_mul (negsuc m) (negsuc n) = refl

natAbs-sub : (m n : ℕ) → nat_abs (sub_ℕ m n) ≤ m + n
natAbs-sub m n = go (dec_lt m n)
  where
    go : Dec (m < n) → nat_abs (sub_ℕ m n) ≤ m + n
    go (yes h) = rw (lt-ltb m n h) (omega arith)
    go (no h) = rw (le-ltb m n (omega arith)) (omega arith)

pub natAbs-plus : (x y : ℤ) → nat_abs (x +ℤ y) ≤ nat_abs x + nat_abs y
natAbs-plus (pos m) (pos n) = omega arith
natAbs-plus (pos m) (negsuc n) = natAbs-sub m (suc n)
natAbs-plus (negsuc m) (pos n) = let h = natAbs-sub n (suc m) in omega arith
natAbs-plus (negsuc m) (negsuc n) = omega arith
