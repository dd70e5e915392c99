-- What open names are renamed to: a handed one to the quantified variable that stands for it, or a held one to itself.
use Rattle.std.specs.Prelude.{Bool}
use Rattle.std.proofs.Math.Bool.{true, false}
use Rattle.std.proofs.Math.Option.{Option, none, some}
use mathlib.Core.List.{List, [], ◌∷◌}
use Prim.Native.Nat.{ℕ, suc}
use Rattle.rules.specs.Base.{only_if, is_yes}
use Rattle.rules.specs.Trees.{Open, var, quant, par, Names}

module _ {N : Type 0} (ν : Names N) where
  -- the place, counted from i, of the first number equal to x
  unfoldable pub first_equal : ℕ → List N → N → Option (Open N)
  first_equal i [] x = none
  first_equal i (v ∷ vs) x = elim (is_yes (ν.same v x)) [ true ↦ some (quant i) | false ↦ first_equal (suc i) vs x ]

  -- variables, and parameters of that name, by the quantified variable of the first number equal to them
  unfoldable pub all_of : ℕ → List N → Open N → Option (Open N)
  all_of i vs (var x) = first_equal i vs x
  all_of i vs (quant j) = none
  all_of i vs (par x) = first_equal i vs x

module _ {N : Type 0} (held : N → Bool) where
  -- a variable that is held, by itself
  unfoldable pub own : Open N → Option (Open N)
  own (var x) = only_if (held x) (var x)
  own (quant i) = none
  own (par x) = none
