-- A state that stands in a buffer, and what a round leaves.
use Rattle.std.specs.Prelude as std
use Rattle.std.specs.Prelude.{Result, Ok, Err, None, Some, ◌≡◌, true, List, ◌++◌, ℕ, ◌≤◌}
use Rattle.std.proofs.Math.Option.{Option, none, some}
use Rattle.rules.specs.Base.{Got, got, refused, bounded, all, max_of}
use Rattle.rules.specs.Refusals.{number_of}
use Rattle.rules.specs.Rounds.{State, stuck, trySatisfy}
use Rattle.rules.specs.Trees.{Con, Binding, depthBinding, depthCon}
use Rattle.rules.specs.declared.Refusal.{Refusal}
use Rattle.laws.specs.Lists.{Every}
use Rattle.records.specs.Good.{goodBinding, goodCon, numbers}
use Rattle.solve_step.specs.declared.Step as code
use Rattle.solve_step.specs.declared.Step.TheVariants.{Bind, Split, Done, Stuck}
use Rattle.types.specs.Binds.{IsBinds}
use Rattle.types.specs.Sets.{IsCons}
use Rattle.solve_round.specs.declared.After.{After}
use Rattle.solve_round.specs.declared.After.TheVariants.{Nowhere, Read, Written}
use Rattle.solve_round.specs.declared.Ends.{Ends}
use Rattle.solve_round.specs.declared.Place.{Place}

-- where the state ends after a round; or that no rule applies; or why the round stops
abbrev pub Turn : Type 0
Turn = Result (std.Option Ends) Refusal

-- up to where no rule applies after a step of a constraint with k records before it
abbrev pub stillStuck : code.Step → ℕ → ℕ
stillStuck (Bind e) k = 0
stillStuck (Split e) k = k
stillStuck Done k = k
stillStuck Stuck k = k

-- what was written stands at the front
abbrev pub written : ℕ → Turn → Result After Refusal
written k (Ok (Some ends)) = Ok (Written (record { start = 0; stuck = k; ends = ends }))
written k (Ok None) = Ok Nowhere
written k (Err r) = Err r

-- a turn that stopped with this number
abbrev pub Stops : Turn → ℕ → Type 0
Stops (Ok ends) k = ⊥
Stops (Err r) k = number_of r ≡ k

module _ (pool table : List ℕ) where
  -- well formed and without quantified variables, nested at most 64 deep
  pub record SoundSet (cs : List (Con ℕ)) : Type 0 where
    pub good : all (goodCon pool table 0) cs ≡ true
    pub flat : max_of depthCon cs ≤ 64

  pub record SoundBinds (bs : List (Binding ℕ)) : Type 0 where
    pub good : all (goodBinding pool table 0) bs ≡ true
    pub flat : max_of depthBinding bs ≤ 64

  -- no rule applies to these
  abbrev pub Idle : List (Con ℕ) → Type 0
  Idle cs = Every (λ c. trySatisfy (numbers pool table) bounded c ≡ got stuck) cs

  -- nor to the first ones of these constraints, up to that place
  pub record Front (w : List ℕ) (p : Place) (cs : List (Con ℕ)) : Type 0 where
    pub passed : List (Con ℕ)
    pub left : List (Con ℕ)
    pub are : cs ≡ passed ++ left
    pub there : IsCons w p.start p.stuck passed
    pub stay : IsCons w p.stuck p.ends.constraints left
    pub idle : Idle passed

  -- a state at a place
  pub record StateHeld (w : List ℕ) (p : Place) (st : State ℕ) : Type 0 where
    pub cons : IsCons w p.start p.ends.constraints st.cons
    pub binds : IsBinds w p.ends.constraints p.ends.bindings st.binds
    pub sound_cons : SoundSet st.cons
    pub sound_binds : SoundBinds st.binds
    pub short : p.ends.bindings ≤ 2048

  -- and where no rule is known to apply
  pub record Placed (w : List ℕ) (p : Place) (st : State ℕ) : Type 0 where
    pub held : StateHeld w p st
    pub front : Front w p st.cons

  -- a turn after which the buffer holds this state
  pub record Onward (w : List ℕ) (r : Turn) (st : State ℕ) : Type 0 where
    pub ends : Ends
    pub is : r ≡ Ok (Some ends)
    pub held : StateHeld w (record { start = 0; stuck = 0; ends = ends }) st

  -- what a round leaves in the buffer w. A refusal: its number, and nothing is said of the buffer
  abbrev pub TurnLeft : List ℕ → Turn → Got (Option (State ℕ)) → Type 0
  TurnLeft w r (got (some st)) = Onward w r st
  TurnLeft w r (got none) = r ≡ Ok None
  TurnLeft w r (refused k) = Stops r k

  -- the same under a name that doesn't compute, so that a lemma's arguments are read off it
  pub record Turned (w : List ℕ) (r : Turn) (R : Got (Option (State ℕ))) : Type 0 where
    pub says : TurnLeft w r R

  -- where the state after a round stands, in the buffer s that was read or in w
  abbrev pub Stands : List ℕ → List ℕ → Result After Refusal → State ℕ → Type 0
  Stands s w (Ok (Read p)) st = Placed s p st
  Stands s w (Ok (Written p)) st = Placed w p st
  Stands s w (Ok Nowhere) st = ⊥
  Stands s w (Err r) st = ⊥

  abbrev pub Refuses : Result After Refusal → ℕ → Type 0
  Refuses (Ok a) k = ⊥
  Refuses (Err r) k = number_of r ≡ k

  -- what a round leaves
  abbrev pub RoundLeft : List ℕ → List ℕ → Result After Refusal → Got (Option (State ℕ)) → Type 0
  RoundLeft s w r (got (some st)) = Stands s w r st
  RoundLeft s w r (got none) = r ≡ Ok Nowhere
  RoundLeft s w r (refused k) = Refuses r k

  pub record Rounded (s w : List ℕ) (r : Result After Refusal) (R : Got (Option (State ℕ))) : Type 0 where
    pub says : RoundLeft s w r R
