-- Bindings one after another from a place up to another: the words alone say which they are.
use Rattle.std.specs.Prelude.{List, ℕ, ◌+◌, ◌≤◌}
use Rattle.std.proofs.Common.{arith}
use Rattle.rules.specs.Trees.{Binding, ◌≔◌, sizeBinding}
use Rattle.records.specs.Holds.{HoldsBinding}
use Rattle.records.specs.Parsed.{only-binding}
use Rattle.types.specs.Once.{ℕ-set, View-set, type-once}
use Rattle.types.specs.Runs.{IsRun, Run, one-run}

pub binding-some : (b : Binding ℕ) → 1 ≤ sizeBinding b
unfolding sizeBinding
binding-some (x ≔ t) = omega arith

abbrev pub IsBinds : List ℕ → ℕ → ℕ → List (Binding ℕ) → Type 0
IsBinds = IsRun HoldsBinding sizeBinding

abbrev pub Binds : List ℕ → ℕ → ℕ → Type 0
Binds = Run HoldsBinding sizeBinding

module _ (s : List ℕ) where
  pub binding-once : (b : Binding ℕ) (at : ℕ) → IsProp (HoldsBinding s b at)
  unfolding HoldsBinding
  binding-once (x ≔ t) at = Prim.hlevel (ℕ-set, View-set, type-once s t (at + 1))

  -- the bindings from a place up to another are one list, in one way
  pub one-binds : (at end : ℕ) → IsProp (Binds s at end)
  one-binds = one-run HoldsBinding sizeBinding s binding-some (only-binding s) binding-once
