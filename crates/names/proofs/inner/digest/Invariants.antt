use mathlib.Core.Path.{◌≡◌}
use Prim.Native.Nat.{◌<◌}
use lib.ListN.{drop}
use Rattle.names.specs.Digests.{digestFrom, digestOf}
use Rattle.names.proofs.inner.digest.Given as goal

abbrev pub invariant-loop-b : goal.invariant-loop-b
invariant-loop-b l = (l.d < 4294967296) × (digestFrom l.d (drop l.b-index l.name) ≡ digestOf l.name)
