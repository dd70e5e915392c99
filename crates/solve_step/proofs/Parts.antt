-- What follows from the definitions of specs/Parts: what the rules ask, and the steps that they lead to.
use Rattle.std.specs.Prelude.{List, ℕ, ◌≤◌, ◌<◌, length}

-- places stay small
pub record Fits (s : List ℕ) (out : ℕ) : Type 0 where
  pub near : length s ≤ 100_000
  pub small : out < 1_000_000_000
