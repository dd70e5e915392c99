use mathlib.Core.Path.{◌≡◌}
use mathlib.Core.List.{map}
use Prim.Native.Nat.{◌≤◌}
use lib.ListN.{length, take}
use Rattle.products.specs.Told.{valueIn}
use Rattle.calls_defined.specs.Factors.{factorsFrom}
use Rattle.calls_defined.proofs.inner.product_from.Given as goal

abbrev pub invariant-loop-i : goal.invariant-loop-i
invariant-loop-i l = (l.i ≤ 64) × (length l.p.factors ≡ 64) × (map valueIn (take l.i l.p.factors) ≡ factorsFrom l.words 0 l.i)
