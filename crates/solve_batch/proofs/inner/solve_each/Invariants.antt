use Rattle.std.specs.Prelude.{◌≡◌, length}
use Rattle.rules.specs.Calls.{solvedSet}
use Rattle.types.specs.Given.{call_over}
use Rattle.solve_batch.proofs.Steps.{Doing}
use Rattle.solve_batch.proofs.inner.solve_each.Given as goal

abbrev pub invariant-sets : goal.invariant-sets
invariant-sets l =
    Doing (call_over l.names solvedSet) l.fn.sets l.lengths l.fn.res l.fn.answers l.res l.answers l.i l.from l.out
    × (length l.work ≡ length l.fn.work)
