use Rattle.std.proofs.Common.{◌≡◌, ◌+◌, ◌≤◌, length, drop}
use Rattle.queries.specs.Marks.{picked}
use Rattle.queries.proofs.name_set.NameSet.len.Given as goal

abbrev pub invariant-loop-i : goal.invariant-loop-i
invariant-loop-i l = (l.n ≤ l.i) × (l.i ≤ 256) × (l.n + length (picked 0 (drop l.i l.self.marks)) ≡ length (picked 0 l.self.marks))
