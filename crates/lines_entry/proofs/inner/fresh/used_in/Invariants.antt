use mathlib.Core.Path.{◌≡◌}
use lib.Dec.{eqb}
use Rattle.rules.specs.Base.{any}
use Rattle.lines_entry.specs.Used.{namesIn}
use Rattle.lines_entry.proofs.inner.fresh.used_in.Given as goal

abbrev pub invariant-loop-i : goal.invariant-loop-i
invariant-loop-i l = any (eqb l.x) (namesIn l.s l.i l.e) ≡ any (eqb l.x) (namesIn l.s l.b l.e)
