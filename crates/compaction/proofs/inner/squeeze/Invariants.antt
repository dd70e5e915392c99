use Rattle.compaction.specs.Told.{marks}
use Rattle.compaction.proofs.Moves.{Doing}
use Rattle.compaction.proofs.inner.squeeze.Given as goal

abbrev pub invariant-loop-i : goal.invariant-loop-i
invariant-loop-i l =
    Doing (marks l.m) l.initial.pool l.initial.table l.pool l.table l.i l.from l.k l.out
