-- Merging, raising and inverting keep products in order, and keep what holds of each factor.
use Rattle.std.specs.Prelude.{◌≡◌}
use mathlib.Core.List.{[], ◌∷◌}
use Prim.Native.Nat.{Ordering}
use Rattle.rules.specs.Trees.{Atom, ◌↑◌, Product, Names, orderAtom}
use Rattle.rules.specs.WellFormed.{atomOf}
use Rattle.laws.specs.Lists.{Every}

module _ {N : Type 0} (ν : Names N) where
  -- an atom stands before all of a product
  abbrev pub Before : Atom N → Product N → Type 0
  Before a p = Every (λ f. orderAtom ν a (atomOf f) ≡ Ordering.lt) p

  abbrev pub Sorted : Product N → Type 0
  Sorted [] = Unit {0}
  Sorted (a ↑ e ∷ p) = Before a p × Sorted p
