-- What was found over a set, as it stands in a list: bindings from the front and bounds behind them; and what the judge asks of it.
use Rattle.std.specs.Prelude as std
use Rattle.std.specs.Prelude.{◌≡◌, Bool, true, Result, is_none, List, map, ℕ, ◌-◌, ◌≤◌, length}
use Rattle.std.proofs.Math.Option.{Option}
use Rattle.rules.specs.Base.{Got, got, refused, all, bounded}
use Rattle.rules.specs.Judging.{judge, failing}
use Rattle.rules.specs.Refusals.{toldBy, toldOption}
use Rattle.rules.specs.Solving.{Answer, accepted, remaining, stopped}
use Rattle.rules.specs.Trees.{var, Names, Con, Binding}
use Rattle.rules.specs.WellFormed.{goodBinding}
use Rattle.rules.specs.declared.Refusal.{Refusal}
use Rattle.laws.specs.Lists.{Every}
use Rattle.records.specs.Good.{numbers, holding}
use Rattle.records.specs.Holds.{HoldsBounds}
use Rattle.types.specs.Binds.{IsBinds}

-- bindings in the records up to b, and n bounds behind them, all well formed
pub record FoundThere (pool table found : List ℕ) (b n : ℕ) (bs : List (Binding ℕ)) (ns : List ℕ) : Type 0 where
  pub binds : IsBinds found 0 b bs
  pub bounds : HoldsBounds found (map (λ n. var n) ns) b
  pub many : n ≡ length ns
  pub good : all (goodBinding (numbers pool table) (holding pool table) 0) bs ≡ true
  pub held : Every (λ n. holding pool table n ≡ true) ns
  pub short : length found ≤ 8192

-- the verdict on it is the judge's; and the place is that of the first constraint that isn't true
pub record FoundJudged (pool table : List ℕ) (bs : List (Binding ℕ)) (ns : List ℕ) (cs : List (Con ℕ)) (r : Result (std.Option ℕ) Refusal) : Type 0 where
  pub verdict : toldBy is_none r ≡ judge (numbers pool table) bounded bs ns cs
  pub place : toldBy toldOption r ≡ failing (numbers pool table) bounded bs ns 0 cs

-- the verdict on an accepted answer is the judge's, over the same set
abbrev pub JudgedAs : Names ℕ → List (Con ℕ) → Got (Answer ℕ) → Got Bool → Type 0
JudgedAs ν cs (refused n) j = Unit {0}
JudgedAs ν cs (got (accepted bs ns k)) j = j ≡ judge ν bounded bs ns cs
JudgedAs ν cs (got (remaining ds k)) j = Unit {0}
JudgedAs ν cs (got (stopped n k)) j = Unit {0}

-- and the place that is told with it is that of the first constraint that fails, if there is one
abbrev pub PlacedAs : Names ℕ → List (Con ℕ) → Got (Answer ℕ) → Got (Option ℕ) → Type 0
PlacedAs ν cs (refused n) j = Unit {0}
PlacedAs ν cs (got (accepted bs ns k)) j = j ≡ failing ν bounded bs ns 0 cs
PlacedAs ν cs (got (remaining ds k)) j = Unit {0}
PlacedAs ν cs (got (stopped n k)) j = Unit {0}
