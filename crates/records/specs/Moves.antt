-- A part that was found is not empty, and lies within; and it has one end.
use Rattle.std.specs.Prelude.{List, ℕ, ◌/◌, ◌≤◌, ◌<◌, length}
use Rattle.std.proofs.Common.{arith}
use Rattle.rules.specs.Trees as tree
use Rattle.records.specs.Places.{seen-in}
use Rattle.records.specs.Good.{GoodBound}

module _ (pool table : List ℕ) (q : ℕ) (s : List ℕ) (at : ℕ) where
  pub bound-moves : (a : tree.Open ℕ) (e : ℕ) → GoodBound pool table q s at a e → (at < e) × (e ≤ length s / 4)
  bound-moves a e g = (omega (arith, g.past), omega (arith, g.past, seen-in s at g.held.0 tt))
