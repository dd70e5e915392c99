use Rattle.std.specs.Prelude.{◌≤◌}
use Rattle.solve_conflict.proofs.Loops.{Switching}
use Rattle.solve_conflict.proofs.inner.switch.Given as goal

abbrev pub invariant-switch : goal.invariant-switch
invariant-switch l = (l.from ≤ l.i) × ((l.i ≤ l.to) × Switching l.from l.i l.on l.fn.stands l.stands)
