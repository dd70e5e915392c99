use Prim.Native.Nat.{◌≤◌, ◌+◌, ◌-◌, ◌/◌}
use mathlib.Core.Path.{◌≡◌}
use lib.ListN.{length}
use Rattle.rescue.proofs.Steps.{Left}
use Rattle.rescue.proofs.inner.walk.Given as goal

abbrev pub invariant-loop-at : goal.invariant-loop-at
invariant-loop-at l =
    (l.n ≡ length l.s / 4) × (l.at ≤ l.n) × (l.k + l.m ≤ l.at) × (length l.kept ≡ length l.initial.kept)
    × (length l.skipped ≡ length l.initial.skipped)
    × Left l.names.pool.now l.names.table.now l.s l.initial.kept l.initial.skipped l.kept l.skipped l.at l.k l.m

abbrev pub decreases-loop-at : goal.decreases-loop-at
decreases-loop-at l = l.n - l.at
