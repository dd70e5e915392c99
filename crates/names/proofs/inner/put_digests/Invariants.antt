use mathlib.Core.Path.{◌≡◌}
use lib.ListN.{length}
use Rattle.names.specs.Digests.{Digests}
use Rattle.names.proofs.inner.put_digests.Given as goal

abbrev pub invariant-loop-k : goal.invariant-loop-k
invariant-loop-k l = (length l.digests ≡ length l.initial.digests) × Digests l.pool l.table l.digests l.k
