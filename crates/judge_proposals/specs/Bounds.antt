-- Bounds with names, one a record.
use Rattle.std.specs.Prelude.{length}
use mathlib.Core.List.{List}
use Prim.Native.Nat.{ℕ, ◌/◌}
use Rattle.rules.specs.Trees.{Open}
use Rattle.records.specs.Good.{Chain, GoodBound}

-- the list holds these bounds
abbrev pub BoundsThere : List ℕ → List ℕ → List ℕ → List (Open ℕ) → Type 0
BoundsThere pool table s os = Chain (GoodBound pool table 0 s) (length s / 4) os 0
