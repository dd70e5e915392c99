-- A set of constraints, and bindings, that passed their test.
use Rattle.std.specs.Prelude.{◌≡◌, true, List, ℕ, ◌≤◌}
use Rattle.rules.specs.Base.{all, sum_of, max_of}
use Rattle.rules.specs.Trees.{Binding, Con, sizeBinding, sizeCon, depthCon}
use Rattle.rules.specs.WellFormed.{goodBinding, goodCon}
use Rattle.records.specs.Good.{numbers, holding}

pub record Fine (pool table : List ℕ) (cs : List (Con ℕ)) : Type 0 where
  pub good : all (goodCon (numbers pool table) (holding pool table) 0) cs ≡ true
  pub small : sum_of sizeCon cs ≤ 2048
  pub flat : max_of depthCon cs ≤ 64

pub record FineBindings (pool table : List ℕ) (bs : List (Binding ℕ)) : Type 0 where
  pub good : all (goodBinding (numbers pool table) (holding pool table) 0) bs ≡ true
  pub small : sum_of sizeBinding bs ≤ 2048
