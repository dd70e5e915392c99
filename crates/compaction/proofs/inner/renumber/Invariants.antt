use mathlib.Core.Path.{◌≡◌}
use mathlib.Core.List.{◌++◌}
use Prim.Native.Nat.{◌*◌}
use lib.ListN.{length, take, drop}
use Rattle.rules.specs.Compaction.{renumbered}
use Rattle.compaction.specs.Told.{marks}
use Rattle.compaction.proofs.inner.renumber.Given as goal

abbrev pub invariant-loop-i : goal.invariant-loop-i
invariant-loop-i l =
    (length l.s ≡ length l.initial.s) × (take (l.i * 4) l.s ++ renumbered (marks l.m) (drop (l.i * 4) l.s) ≡ renumbered (marks l.m) l.initial.s)
