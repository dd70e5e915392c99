use mathlib.Core.Path.{◌≡◌}
use mathlib.Core.List.{map}
use lib.Dec.{eqb}
use lib.ListN.{drop}
use Rattle.rules.specs.Base.{any, collect}
use Rattle.rules.specs.Lines.{namesOfStep}
use Rattle.lines_entry.specs.Told.{stepOf}
use Rattle.lines_entry.proofs.inner.fresh.one_uses.Given as goal

abbrev pub invariant-loop-step : goal.invariant-loop-step
invariant-loop-step l = any (eqb l.x) (collect namesOfStep (map stepOf (drop l.step-index l.steps)))
    ≡ any (eqb l.x) (collect namesOfStep (map stepOf l.steps))
