-- The open name of a factor by value.
use Rattle.std.specs.Prelude.{ℕ}
use Rattle.std.proofs.Math.Option.{Option, none, some}
use Rattle.rules.specs.Trees as trees
use Rattle.rules.specs.Trees.{◌↑◌}

-- the open name of a factor; a base dimension has none
abbrev pub open_in : trees.Factor ℕ → Option (trees.Open ℕ)
open_in (trees.free o ↑ e) = some o
open_in (trees.base n ↑ e) = none
