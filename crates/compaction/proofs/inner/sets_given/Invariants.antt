use mathlib.Core.Path.{◌≡◌}
use Prim.Native.Nat.{◌≤◌}
use lib.ListN.{length, drop}
use Rattle.rules.specs.Names.{table_of}
use Rattle.compaction.specs.Told.{metSets}
use Rattle.compaction.proofs.inner.sets_given.Given as goal

abbrev pub invariant-loop-n : goal.invariant-loop-n
invariant-loop-n l =
    (l.from ≤ length l.sets) × (metSets (table_of l.names.pool.now l.names.table.now) (drop l.n-index l.lengths) (drop l.from l.sets)
    ≡ metSets (table_of l.names.pool.now l.names.table.now) l.lengths l.sets)
