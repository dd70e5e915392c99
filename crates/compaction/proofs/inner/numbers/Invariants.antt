use Rattle.compaction.specs.Told.{marks, Numbered}
use Rattle.compaction.proofs.inner.numbers.Given as goal

abbrev pub invariant-loop-i : goal.invariant-loop-i
invariant-loop-i l = Numbered (marks l.m) l.to l.i
