-- Constraints one after another from a place up to another: the words alone say which they are.
use Rattle.std.specs.Prelude.{List, [], ◌∷◌, ℕ, ◌+◌, ◌≤◌}
use Rattle.std.proofs.Common.{arith}
use Rattle.rules.specs.Trees.{Con, equal, isDim, is_scalar, hasField, sizeCon}
use Rattle.records.specs.Holds.{HoldsCon}
use Rattle.records.specs.Parsed.{only-con}
use Rattle.types.specs.Once.{con-once}
use Rattle.types.specs.Runs.{IsRun, Run, one-run}

pub con-some : (c : Con ℕ) → 1 ≤ sizeCon c
unfolding sizeCon
con-some (equal l r) = omega arith
con-some (isDim t) = omega arith
con-some (is_scalar p) = omega arith
con-some (hasField x l r) = omega arith

-- each with the words that it stands in, and its place there
abbrev pub placed : List ℕ → ℕ → List (Con ℕ) → List (List ℕ × ℕ × Con ℕ)
placed s at [] = []
placed s at (c ∷ cs) = (s, at, c) ∷ placed s (at + sizeCon c) cs

abbrev pub IsCons : List ℕ → ℕ → ℕ → List (Con ℕ) → Type 0
IsCons = IsRun HoldsCon sizeCon

abbrev pub Cons : List ℕ → ℕ → ℕ → Type 0
Cons = Run HoldsCon sizeCon

module _ (s : List ℕ) where
  -- the constraints from a place up to another are one list, in one way
  pub one-set : (at end : ℕ) → IsProp (Cons s at end)
  one-set = one-run HoldsCon sizeCon s con-some (only-con s) (con-once s)
