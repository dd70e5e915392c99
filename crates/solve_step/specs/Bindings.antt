-- The first binding that fits.
use Rattle.std.specs.Prelude.{ℕ}
use Rattle.std.proofs.Math.Option.{Option}
use Rattle.rules.specs.Base.{◌or_else◌}
use Rattle.rules.specs.Rounds.{Step, bind, bindTo}
use Rattle.rules.specs.Trees.{Names, Ty}
use Rattle.rules.specs.Views.{asVar, asPower}
use Rattle.solve_step.specs.declared.inner.binding.Binding.{Binding}

-- the step that a binding is
abbrev pub bound_to : Binding → Step ℕ
bound_to b = bind b.name b.to.tree.0

module _ (ν : Names ℕ) where
  -- the variable of the left side to the right one, else that of the right side to the left one
  abbrev pub either : Option ℕ → Option ℕ → Ty ℕ → Ty ℕ → Option (Step ℕ)
  either x y l r = bindTo ν x r or_else bindTo ν y l

  -- the rules 2 and 3
  abbrev pub firstBinding : Ty ℕ → Ty ℕ → Option (Step ℕ)
  firstBinding l r = either (asVar l) (asVar r) l r or_else either (asPower l) (asPower r) l r
