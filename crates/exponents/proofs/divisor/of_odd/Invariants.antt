use mathlib.Core.Path.{◌≡◌}
use Prim.Native.Nat.{◌+◌, ◌%◌}
use Rattle.rules.specs.Exponents.{gcd}
use Rattle.exponents.proofs.divisor.of_odd.Given as goal

abbrev pub invariant-loop-x : goal.invariant-loop-x
invariant-loop-x l = (gcd l.x l.y ≡ gcd l.a l.b) × (l.x % 2 ≡ 1) × (l.y % 2 ≡ 1)

abbrev pub decreases-loop-x : goal.decreases-loop-x
decreases-loop-x l = l.x + l.y
