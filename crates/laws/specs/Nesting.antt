-- What a rule puts in the place of a constraint, or binds, is nested no deeper than the constraint: so only a binding that is put in makes a state deeper.
use Rattle.std.specs.Prelude.{ℕ, ◌≤◌}
use mathlib.Core.List.{List}
use Rattle.rules.specs.Base.{Got, Limits, within}
use Rattle.rules.specs.Rounds.{Step, State, sizeState}
use Rattle.rules.specs.Trees.{Con, depth, depthCon}
use Rattle.laws.specs.Lists.{Every}
use Rattle.laws.specs.RuleCases.{After}

-- ══ A rule ══

module _ {N : Type 0} where
  -- constraints nested at most d deep
  abbrev pub Within : ℕ → List (Con N) → Type 0
  Within d cs = Every (λ c. depthCon c ≤ d) cs

  -- what a step puts in, or binds, is nested at most d deep
  abbrev pub Shallow : ℕ → Step N → Type 0
  Shallow d s = After (Within d) (λ x t. depth t ≤ d) s

module _ {N : Type 0} where
  -- a state, if it has not too many records
  abbrev pub counting : Limits → State N → Got (State N)
  counting l s = within l (sizeState s) 2048 s
