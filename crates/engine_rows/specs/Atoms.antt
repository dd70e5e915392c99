-- Atoms of the code and of the trees, and rows with zeros past their columns.
use Rattle.std.specs.Prelude.{◌≡◌, true, length, replicate}
use mathlib.Core.List.{◌++◌}
use Prim.Native.Nat.{ℕ, ◌-◌}
use Rattle.rules.specs.Exponents.{Exp, nought, goodExp}
use Rattle.rules.specs.Trees.{Factor, ◌↑◌, Product}
use Rattle.laws.specs.Lists.{Every}
use Rattle.rules.specs.Elimination as Rows

-- ══ Held products, and their rows ══

abbrev pub powerOf : Factor ℕ → Exp
powerOf (a ↑ e) = e

-- each power is well formed
abbrev pub GoodPowers : Product ℕ → Type 0
GoodPowers p = Every (λ f. goodExp (powerOf f) ≡ true) p

-- these powers, and zeros up to 48
abbrev pub padded : Rows.Row → Rows.Row
padded l = l ++ replicate (48 - length l) nought
