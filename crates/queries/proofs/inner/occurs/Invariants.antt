use mathlib.Core.Path.{◌≡◌}
use Prim.Native.Nat.{}
use lib.Dec.{eqb}
use Rattle.rules.specs.Base.{any}
use Rattle.queries.specs.Scans.{choose, opensIn}
use Rattle.queries.proofs.inner.occurs.Given as goal

abbrev pub invariant-loop-i : goal.invariant-loop-i
invariant-loop-i l = any (eqb l.x) (choose l.k (opensIn l.s l.i l.e)) ≡ any (eqb l.x) (choose l.k (opensIn l.s l.b l.e))
