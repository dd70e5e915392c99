use Rattle.judge_entries.proofs.Filling.{SoFar}
use Rattle.judge_entries.proofs.inner.fill.Given as goal

abbrev pub invariant-loop-v : goal.invariant-loop-v
invariant-loop-v l = SoFar l.names.pool.now l.names.table.now l.types l.slots.places l.initial.places l.places l.taken l.v
