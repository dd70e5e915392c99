use mathlib.Core.Path.{◌≡◌}
use lib.Dec.{eqb}
use lib.ListN.{drop}
use Rattle.rules.specs.Base.{any}
use Rattle.lines_entry.proofs.inner.fresh.is_among.Given as goal

abbrev pub invariant-loop-i : goal.invariant-loop-i
invariant-loop-i l = any (eqb l.x) (drop l.i l.lent) ≡ any (eqb l.x) (drop l.from l.lent)
