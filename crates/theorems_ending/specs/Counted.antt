-- What is counted of a run, and the sets that are solved: the words of the theorems.
use Rattle.std.specs.Prelude.{◌≡◌, Bool, true, ℕ, zero, suc, ◌+◌, ◌≤◌}
use Rattle.std.proofs.Math.Option.{Option, none as nothing, some}
use mathlib.Core.List.{List, []}
use Rattle.rules.specs.Base.{Got, got, refused, Limits, all, sum_of}
use Rattle.rules.specs.Trees.{Names, Con, sizeCon}
use Rattle.rules.specs.WellFormed.{goodCon}
use Rattle.rules.specs.Rounds.{Step, bind, split, done, stuck, State, firstStep, round}
use Rattle.rules.specs.Solving.{Answer, accepted, remaining, stopped}
use Rattle.rules.specs.Calls.{Solved, solved, unsolved, refusedAfter}

module _ {N : Type 0} where
  -- the number of completed rounds that an answer carries
  abbrev pub roundsOf : Answer N → ℕ
  roundsOf (accepted bs ns k) = k
  roundsOf (remaining cs k) = k
  roundsOf (stopped n k) = k

  -- does a step bind: 1, or 0
  abbrev pub binds : Step N → ℕ
  binds (bind x t) = 1
  binds (split new) = 0
  binds done = 0
  binds stuck = 0

  abbrev pub binding : Got (Option (Step N × List (Con N))) → ℕ
  binding (refused n) = 0
  binding (got nothing) = 0
  binding (got (some v)) = binds v.0

  -- a refused round isn't counted
  abbrev pub counted : ℕ → Got (Option (State N)) → (State N → ℕ) → ℕ
  counted b (refused n) more = 0
  counted b (got nothing) more = 0
  counted b (got (some s)) more = b + more s

module _ {N : Type 0} (ν : Names N) (l : Limits) where
  -- how many of the completed rounds of `run` bind
  unfoldable pub bindingRounds : ℕ → State N → ℕ
  bindingRounds zero s = 0
  bindingRounds (suc f) s = counted (binding (firstStep ν l s.cons)) (round ν l s) (λ s'. bindingRounds f s')

-- the rounds that the answer of the call carries
abbrev pub roundsIn : Solved → ℕ
roundsIn (solved bindings bounds k) = k
roundsIn (unsolved left k) = k
roundsIn (refusedAfter n k) = k

-- the checks at entry: well formed constraints of at most 2,048 records
pub record Admitted {N : Type 0} (ν : Names N) (held : N → Bool) (cs : List (Con N)) : Type 0 where
  pub good : all (goodCon ν held 0) cs ≡ true
  pub small : sum_of sizeCon cs ≤ 2048

module _ {N : Type 0} where
  -- where solving starts
  abbrev pub start : List (Con N) → State N
  start cs = record { cons = cs; binds = [] }
