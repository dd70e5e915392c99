use mathlib.Core.Path.{◌≡◌}
use mathlib.Core.Bool.{not}
use mathlib.Core.List.{map}
use lib.Dec.{eqb}
use lib.ListN.{drop}
use Rattle.rules.specs.Base.{any, all, collect}
use Rattle.rules.specs.Lines.{namesOfStep}
use Rattle.lines_entry.specs.Told.{stepOf}
use Rattle.lines_entry.proofs.inner.fresh.none_used.Given as goal

abbrev pub invariant-loop-i : goal.invariant-loop-i
invariant-loop-i l = all (λ x. not (any (eqb x) (collect namesOfStep (map stepOf l.steps)))) (drop l.i l.lent)
    ≡ all (λ x. not (any (eqb x) (collect namesOfStep (map stepOf l.steps)))) l.lent
