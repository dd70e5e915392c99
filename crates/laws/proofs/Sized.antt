-- Over 2,048 records, or nested over 64, is 8: what keeps both limits passes unchanged.
use Rattle.std.specs.Prelude.{◌≡◌, refl, Bool, true, false, ℕ, ◌≤◌, ◌<◌, leb}
use Rattle.std.proofs.Common.{le-leb, leb-true}
use Rattle.std.proofs.lemmas.Bool.{lt-leb}
use Rattle.rules.specs.Base.{got, refused, ◌>>=◌, allow, Limits, bounded, exact, sized}
use Rattle.laws.proofs.Lists.{clash, allow-same}

module _ {A : Type 0} (n d : ℕ) (a : A) where
  pub sized-kept : n ≤ 2048 → d ≤ 64 → sized bounded n d a ≡ got a
  sized-kept h k = rw (le-leb n 2048 h, le-leb d 64 k)

  pub sized-long : 2048 < n → sized bounded n d a ≡ refused 8
  sized-long h = rw (lt-leb n 2048 h)

  pub sized-deep : 64 < d → sized bounded n d a ≡ refused 8
  sized-deep h = go (leb n 2048)
    where
      go : (b : Bool) → (allow b 8 a >>= λ a. allow (leb d 64) 8 a) ≡ refused 8
      go true = rw (lt-leb d 64 h)
      go false = refl

  pub sized_same : (l : Limits) (v : A) → sized l n d a ≡ got v → a ≡ v
  sized_same exact v e = cc
  sized_same bounded v e = go (leb n 2048) e
    where
      go : (b : Bool) → (allow b 8 a >>= λ a. allow (leb d 64) 8 a) ≡ got v → a ≡ v
      go true e = allow-same (leb d 64) 8 a v e
      go false e = clash e

  pub sized-small : (v : A) → sized bounded n d a ≡ got v → n ≤ 2048
  sized-small v e = go (leb n 2048) refl e
    where
      go : (b : Bool) → leb n 2048 ≡ b → (allow b 8 a >>= λ a. allow (leb d 64) 8 a) ≡ got v → n ≤ 2048
      go true i e = leb-true n 2048 i
      go false i e = clash e

  pub sized-flat : (v : A) → sized bounded n d a ≡ got v → d ≤ 64
  sized-flat v e = go (leb n 2048) (leb d 64) refl e
    where
      go : (b c : Bool) → leb d 64 ≡ c → (allow b 8 a >>= λ a. allow c 8 a) ≡ got v → d ≤ 64
      go true true i e = leb-true d 64 i
      go true false i e = clash e
      go false c i e = clash e
