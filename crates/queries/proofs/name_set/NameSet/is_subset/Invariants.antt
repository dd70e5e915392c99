use Rattle.queries.specs.Marks.{Within}
use Rattle.queries.proofs.name_set.NameSet.is_subset.Given as goal

abbrev pub invariant-loop-i : goal.invariant-loop-i
invariant-loop-i l = Within l.self.marks l.other.marks l.i
