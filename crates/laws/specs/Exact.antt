-- Where the bounded rules give a value, the exact rules give the same; where they refuse other than by 7 or 8, the exact rules refuse alike.
use Rattle.std.specs.Prelude.{◌≡◌, ◌⊎◌}
use Prim.Native.Nat.{ℕ}
use Rattle.rules.specs.Base.{Got, got, refused}

-- the refusals that exact arithmetic doesn't know
abbrev pub OfLimits : ℕ → Type 0
OfLimits k = (k ≡ 7) ⊎ (k ≡ 8)

-- n gives m's value, if m gives one; and m's refusal, if that isn't one of limits
pub record Below {A : Type 0} (m n : Got A) : Type 0 where
  pub gives : (a : A) → m ≡ got a → n ≡ got a
  pub refuses : (k : ℕ) → m ≡ refused k → (n ≡ refused k) ⊎ OfLimits k
