-- Round after round, and what is answered at the end.
use Rattle.std.specs.Prelude.{List, [], ◌∷◌, ℕ, zero, suc}
use Rattle.std.proofs.Math.Option.{Option, none, some}
use Rattle.rules.specs.Base.{Got, got, refused, Limits, and_then, keep, collect, to_list, is_none}
use Rattle.rules.specs.Trees.{Names, Con, equal, isDim, is_scalar, hasField, Binding}
use Rattle.rules.specs.Views.{openOf, name_of}
use Rattle.rules.specs.Contents.{sort}
use Rattle.rules.specs.Rounds.{State, round}

-- what solving answers, each time with the number of completed rounds: bindings and bounds; the constraints that remain (5); another refusal
pub data Answer (N : Type 0) : Type 0 where
  accepted : List (Binding N) → List N → ℕ → Answer N
  remaining : List (Con N) → ℕ → Answer N
  stopped : ℕ → ℕ → Answer N

module _ {N : Type 0} where
  -- the name of a bound: 'is-dimension constraints on a variable or parameter become bounds'
  unfoldable pub boundOf : Con N → Option N
  boundOf (equal s t) = none
  boundOf (isDim t) = and_then (openOf t) name_of
  boundOf (is_scalar p) = none
  boundOf (hasField n s t) = none

module _ {N : Type 0} (ν : Names N) where
  -- 'sorted by name bytes, once each. Accepted: bindings in order, then bounds'; 'a constraint remains other than is-dimension of a variable or parameter': 5
  unfoldable pub finished : List (Con N) → ℕ → State N → Answer N
  finished [] k s = accepted s.binds (sort ν (collect (λ c. to_list (boundOf c)) s.cons)) k
  finished (c ∷ cs) k s = remaining (c ∷ cs) k

  unfoldable pub finish : ℕ → State N → Answer N
  finish k s = finished (keep (λ c. is_none (boundOf c)) s.cons) k s

  -- 'a refused round isn't counted'
  unfoldable pub after : Got (Option (State N)) → ℕ → State N → (State N → Answer N) → Answer N
  after (refused n) k s more = stopped n k
  after (got none) k s more = finish k s
  after (got (some s')) k s more = more s'

-- the bound on rounds: V + 6,144 x (V + 1) for V = 256 variables, and one to see that no rule applies. It is never
-- met (`ends` in crates/theorems_ending)
abbrev pub enough : ℕ
enough = 1_579_265

module _ {N : Type 0} (ν : Names N) (l : Limits) where
  -- round after round; the first number bounds them, and k are completed
  unfoldable pub run : ℕ → ℕ → State N → Answer N
  run zero k s = stopped 0 k
  run (suc f) k s = after ν (round ν l s) k s (λ s'. run f (suc k) s')

  unfoldable pub solve : List (Con N) → Answer N
  solve cs = run enough 0 (record { cons = cs; binds = [] })
