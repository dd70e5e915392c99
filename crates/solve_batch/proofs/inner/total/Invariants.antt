use mathlib.Core.Path.{◌≡◌}
use Prim.Native.Nat.{◌+◌, ◌*◌, ◌≤◌}
use lib.ListN.{drop}
use Rattle.rules.specs.Base.{sum_of}
use Rattle.solve_batch.proofs.inner.total.Given as goal

abbrev pub invariant-loop-n : goal.invariant-loop-n
invariant-loop-n l = (l.sum + sum_of (λ n. n) (drop l.n-index l.lengths) ≡ sum_of (λ n. n) l.lengths) × (l.sum ≤ l.n-index * 4294967295)
