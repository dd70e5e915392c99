use mathlib.Core.Path.{◌≡◌}
use Prim.Native.Nat.{◌≤◌}
use Rattle.rules.specs.Compaction.{newNumber}
use Rattle.compaction.specs.Told.{marks}
use Rattle.compaction.proofs.inner.number_of.Given as goal

abbrev pub invariant-loop-i : goal.invariant-loop-i
invariant-loop-i l = (l.k ≡ newNumber (marks l.m) l.i) × (l.k ≤ l.i)
