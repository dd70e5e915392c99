-- Round after round: what is left to do is what solving answers.
use mathlib.Core.List.{List}
use Prim.Native.Nat.{ℕ, ◌/◌, ◌≤◌}
use Rattle.std.proofs.Math.ListN.{length}
use Rattle.rules.specs.Trees.{Con}
use Rattle.records.specs.Good.{numbers, holding}
use Rattle.theorems_ending.specs.Counted.{Admitted}
use Rattle.types.specs.Sets.{IsCons}
use Rattle.solve_round.specs.States.{SoundSet}

module _ (pool table : List ℕ) where
  -- a set that passed the checks, which is the whole list
  pub record Begun (ws : List ℕ) (cs : List (Con ℕ)) : Type 0 where
    pub held : IsCons ws 0 (length ws / 4) cs
    pub sound : SoundSet pool table cs
    pub short : length ws ≤ 8192
    pub admitted : Admitted (numbers pool table) (holding pool table) cs
