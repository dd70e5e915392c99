use Prim.Native.Nat.{◌≤◌}
use Rattle.records.specs.Good.{numbers}
use Rattle.queries.specs.Marks.{Least}
use Rattle.queries.proofs.name_set.NameSet.first.Given as goal

abbrev pub invariant-loop-i : goal.invariant-loop-i
invariant-loop-i l = (l.i ≤ 256) × Least (numbers l.names.pool.now l.names.table.now) l.self.marks l.i l.best
