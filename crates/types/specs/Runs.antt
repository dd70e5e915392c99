-- Things one after another from a place up to another: the words alone say which they are.
use Rattle.std.specs.Prelude.{◌≡◌, List, [], ◌∷◌, ℕ, ◌+◌, ◌≤◌, refl}
use mathlib.Core.HLevel.{Σ_prop_path, Unit-prop}
use Rattle.std.proofs.Common.{arith, ap₂, ap, sym, subst}
use Rattle.rules.specs.Base.{sum_of}
use Rattle.types.specs.Once.{ℕ-set}

module _ {A : Type 0} (Here : List ℕ → A → ℕ → Type 0) (long : A → ℕ) (s : List ℕ) where
  -- each at its place in s, as long as `long` says
  unfoldable pub HoldsEach : List A → ℕ → Type 0
  HoldsEach [] at = Unit {0}
  HoldsEach (x ∷ xs) at = Here s x at × HoldsEach xs (at + long x)

  pub record IsRun (at end : ℕ) (xs : List A) : Type 0 where
    pub held : HoldsEach xs at
    pub ends : end ≡ at + sum_of long xs

  abbrev pub Run : ℕ → ℕ → Type 0
  Run at end = (xs : List A) × IsRun at end xs

  -- of things that have a length, and each of which stands at a place alone and in one way
  module _ (some : (x : A) → 1 ≤ long x) (only : (x y : A) (at : ℕ) → Here s x at → Here s y at → x ≡ y) (once : (x : A) (at : ℕ) → IsProp (Here s x at)) where
    each-once : (xs : List A) (at : ℕ) → IsProp (HoldsEach xs at)
    unfolding HoldsEach
    each-once [] at = Unit-prop
    each-once (x ∷ xs) at = Prim.hlevel (once x at, each-once xs (at + long x))

    pub only-run : (xs ys : List A) (at end : ℕ) → IsRun at end xs → IsRun at end ys → xs ≡ ys
    unfolding HoldsEach
    only-run [] [] at end p q = refl
    only-run [] (y ∷ ys) at end p q = absurd (omega (arith, p.ends, q.ends, some y))
    only-run (x ∷ xs) [] at end p q = absurd (omega (arith, p.ends, q.ends, some x))
    only-run (x ∷ xs) (y ∷ ys) at end p q =
        let first : x ≡ y = only x y at p.held.0 q.held.0 in
        let behind : HoldsEach ys (at + long x) = subst (λ (z : A). HoldsEach ys (at + long z)) (sym first) q.held.1 in
        let rest : xs ≡ ys = only-run xs ys (at + long x) end
        (record { held = p.held.1; ends = omega (arith, p.ends) })
        (record { held = behind; ends = omega (arith, q.ends, ap long first) }) in
        ap₂ ◌∷◌ first rest

    -- what stands from a place up to another is one list, in one way
    pub one-run : (at end : ℕ) → IsProp (Run at end)
    one-run at end p q = Σ_prop_path (λ xs. Prim.hlevel (ℕ-set, each-once xs at)) (only-run p.0 q.0 at end p.1 q.1)
