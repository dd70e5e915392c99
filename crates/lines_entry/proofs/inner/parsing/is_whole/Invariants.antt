use mathlib.Core.Path.{◌≡◌}
use mathlib.Core.List.{map}
use Prim.Native.Nat.{◌≤◌}
use lib.ListN.{drop}
use Rattle.rules.specs.Steps.{whole}
use Rattle.lines_entry.specs.Told.{stepOf}
use Rattle.lines_entry.proofs.inner.parsing.is_whole.Given as goal

abbrev pub invariant-loop-step : goal.invariant-loop-step
invariant-loop-step l = (l.n ≤ l.step-index) × (whole l.n (map stepOf (drop l.step-index l.steps)) ≡ whole 0 (map stepOf l.steps))
