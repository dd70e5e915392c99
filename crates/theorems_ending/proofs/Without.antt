-- A list of names without one of them: the others stay, and it is shorter.
use Rattle.std.specs.Prelude.{◌≡◌, ◌⊎◌, ◌≤◌, ◌<◌}
use Rattle.std.proofs.Math.Path.{refl, sym}
use Rattle.std.proofs.Common.{◌∙◌, inl, inr}
use mathlib.Core.List.Memᴰ
use mathlib.Core.List.{List, [], ◌∷◌, Memᴰ}
use native.Mathlib.Omega.{arith}
use Rattle.std.proofs.Math.ListN.{length}
use Rattle.rules.specs.Trees.{Names}

module _ {N : Type 0} (ν : Names N) where
  unfoldable pub without : N → List N → List N
  without x [] = []
  without x (y ∷ ys) = elim (ν.same x y) [ yes e ↦ without x ys | no f ↦ y ∷ without x ys ]

  pub stays : {x y : N} (ys : List N) → Memᴰ y ys → (x ≡ y → ⊥) → Memᴰ y (without x ys)
  unfolding without
  stays [] m h = absurd (Memᴰ.not-nil m)
  stays {x} {y} (z ∷ zs) m h = go (ν.same x z) refl (Memᴰ.cases_cons m) (λ i. stays zs i h)
    where
      go : (d : Dec (x ≡ z)) → ν.same x z ≡ d → (y ≡ z) ⊎ Memᴰ y zs → (Memᴰ y zs → Memᴰ y (without x zs)) → Memᴰ y (without x (z ∷ zs))
      go (yes e) q (inl i) r = absurd (h (e ∙ sym i))
      go (yes e) q (inr i) r = rw (q, without) (r i)
      go (no f) q (inl i) r = rw (q, without) (Memᴰ.head i)
      go (no f) q (inr i) r = rw (q, without) (Memᴰ.tail (r i))

  no_longer : (x : N) (ys : List N) → length (without x ys) ≤ length ys
  unfolding without
  no_longer x [] = omega arith
  no_longer x (y ∷ ys) = go (ν.same x y) refl (no_longer x ys)
    where
      go : (d : Dec (x ≡ y)) → ν.same x y ≡ d → length (without x ys) ≤ length ys → length (without x (y ∷ ys)) ≤ length (y ∷ ys)
      go (yes e) q r = rw (q, without) (omega arith)
      go (no f) q r = rw (q, without) (omega arith)

  pub shorter : (x : N) (ys : List N) → Memᴰ x ys → length (without x ys) < length ys
  unfolding without
  shorter x [] m = absurd (Memᴰ.not-nil m)
  shorter x (z ∷ zs) m = go (ν.same x z) refl (Memᴰ.cases_cons m) (shorter x zs) (no_longer x zs)
    where
      go : (d : Dec (x ≡ z)) → ν.same x z ≡ d → (x ≡ z) ⊎ Memᴰ x zs → (Memᴰ x zs → length (without x zs) < length zs)
          → length (without x zs) ≤ length zs → length (without x (z ∷ zs)) < length (z ∷ zs)
      go (yes e) q i r k = rw (q, without) (omega arith)
      go (no f) q (inl i) r k = absurd (f i)
      go (no f) q (inr i) r k = rw (q, without) (omega (arith, r i))
