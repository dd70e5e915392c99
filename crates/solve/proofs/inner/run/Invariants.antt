use Rattle.std.proofs.Common.{◌≡◌, List, ℕ, suc, ◌-◌, length}
use Rattle.rules.specs.Solving.{enough}
use Rattle.rules.specs.Trees.{Con}
use Rattle.solve.specs.Running.{Begun}
use Rattle.solve.proofs.Running.{Going}
use Rattle.solve.proofs.inner.run.Given as goal

abbrev pub invariant-turns : goal.invariant-turns
invariant-turns l =
    (l.res ≡ l.fn.res)
    × (length l.state ≡ 8192)
    × (length l.next ≡ 8192)
    × (length l.new ≡ 8192)
    × ((cs : List (Con ℕ)) → Begun l.names.pool.now l.names.table.now l.set cs
    → Going l.names.pool.now l.names.table.now cs l.state l.place l.rounds)

abbrev pub decreases-turns : goal.decreases-turns
decreases-turns l = suc enough - l.rounds
