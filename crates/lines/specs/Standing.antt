-- A set as it stands in a buffer.
use Rattle.std.specs.Prelude.{◌≡◌, ℕ, ◌*◌, ◌/◌, ◌≤◌}
use mathlib.Core.List.{List}
use Rattle.std.proofs.Math.ListN.{length}
use Rattle.rules.specs.Trees.{Con}
use Rattle.laws.specs.Nesting.{Within}
use Rattle.theorems_ending.specs.Counted.{Admitted}
use Rattle.records.specs.Good.{numbers, holding}
use Rattle.judge_trials.specs.Trials.{SetThere}

module _ (pool table : List ℕ) where
  -- the whole list is a set that solver and judge take
  pub record SetStands (set : List ℕ) (cs : List (Con ℕ)) : Type 0 where
    pub there : SetThere pool table set cs
    pub admitted : Admitted (numbers pool table) (holding pool table) cs
    pub short : length set ≤ 8192
    pub even : length set ≡ length set / 4 * 4
    pub flat : Within 64 cs
