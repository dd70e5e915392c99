use mathlib.Core.Path.{◌≡◌}
use Prim.Native.Nat.{◌≤◌}
use lib.ListN.{drop}
use Rattle.queries.specs.Marks.{disjoint}
use Rattle.queries.proofs.name_set.NameSet.is_disjoint.Given as goal

abbrev pub invariant-loop-i : goal.invariant-loop-i
invariant-loop-i l = (l.i ≤ 256) × (disjoint (drop l.i l.self.marks) (drop l.i l.other.marks) ≡ disjoint l.self.marks l.other.marks)
