-- What one rule does: it binds a variable that stands in the constraints, or makes them lighter.
use mathlib.Core.List.{List, Memᴰ}
use Prim.Native.Nat.{ℕ, ◌<◌}
use Rattle.rules.specs.Trees.{Open, var, quant, par, Names, Con, equal, isDim, is_scalar, hasField}
use Rattle.rules.specs.Rounds.{Step, bind, split, done, stuck}
use Rattle.laws.specs.Lists.{Every}
use Rattle.theorems_ending.proofs.Without.{without}
use Rattle.theorems_ending.proofs.Products.{Neat}
use Rattle.theorems_ending.proofs.Fine.{Named, Fine, Any}
use Rattle.theorems_ending.proofs.Weights.{weighAll}

-- an open name that is no variable, or a variable of the list
abbrev pub In : {N : Type 0} → List N → Open N → Type 0
In xs (var x) = Memᴰ x xs
In xs (quant i) = Unit {0}
In xs (par x) = Unit {0}

module _ {N : Type 0} (ν : Names N) where
  -- a constraint with products in order, whose variables are of the list. Is-dimension binds nothing and leads to nothing else: its names don't count
  unfoldable pub Ok : List N → Con N → Type 0
  Ok xs (equal s t) = Fine ν (In xs) s × Fine ν (In xs) t
  Ok xs (isDim t) = Fine ν Any t
  Ok xs (is_scalar p) = Neat ν (Named (In xs)) p
  Ok xs (hasField n s t) = Fine ν (In xs) s × Fine ν (In xs) t

  -- a step from a constraint of the weight w
  abbrev pub Stepped : List N → ℕ → Step N → Type 0
  Stepped xs w (bind x t) = Memᴰ x xs × Fine ν (In (without ν x xs)) t
  Stepped xs w (split new) = Every (Ok xs) new × (weighAll new < w)
  Stepped xs w done = 0 < w
  Stepped xs w stuck = Unit {0}
