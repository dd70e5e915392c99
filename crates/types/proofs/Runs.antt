-- What follows from the definitions of specs/Runs: things one after another from a place up to another: the words alone say which they are.
use Rattle.std.specs.Prelude.{List, [], ◌∷◌, ℕ, ◌+◌, ◌/◌, ◌≤◌, length}
use Rattle.std.proofs.Common.{arith}
use Rattle.rules.specs.Base.{sum_of}
use Rattle.types.specs.Runs.{HoldsEach}

module _ {A : Type 0} (Here : List ℕ → A → ℕ → Type 0) (long : A → ℕ) (s : List ℕ) where
  -- they lie within the words, if each does
  pub each-in : ((x : A) (at : ℕ) → Here s x at → at + long x ≤ length s / 4) → (xs : List A) (at : ℕ) → at ≤ length s / 4 → HoldsEach Here long s xs at
      → at + sum_of long xs ≤ length s / 4
  unfolding HoldsEach
  each-in one [] at le h = omega arith
  each-in one (x ∷ xs) at le h = omega (arith, each-in one xs (at + long x) (one x at h.0) h.1)
