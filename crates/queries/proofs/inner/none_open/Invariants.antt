use mathlib.Core.Path.{◌≡◌}
use Prim.Native.Nat.{}
use Rattle.rules.specs.Base.{isNil}
use Rattle.queries.specs.Scans.{opensIn}
use Rattle.queries.proofs.inner.none_open.Given as goal

abbrev pub invariant-loop-i : goal.invariant-loop-i
invariant-loop-i l = isNil (opensIn l.s l.i l.e) ≡ isNil (opensIn l.s l.b l.e)
