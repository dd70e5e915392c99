use Prim.Native.Nat.{◌+◌, ◌-◌, ◌≤◌}
use lib.ListN.{drop}
use Rattle.rules.specs.Base.{bounded}
use Rattle.rules.specs.Names.{table_of, numbersOf}
use Rattle.rules.specs.Products.{merge}
use Rattle.products.specs.Told.{productOf}
use Rattle.products.proofs.Steps.{Doing}
use Rattle.products.proofs.inner.multiplied.Given as goal

abbrev pub invariant-loop-i : goal.invariant-loop-i
invariant-loop-i l =
    (l.i ≤ l.m) × (l.j ≤ l.n)
    × Doing (merge (numbersOf (table_of l.names.pool.now l.names.table.now)) bounded (drop l.i (productOf l.a)) (drop l.j (productOf l.b)))
    (merge (numbersOf (table_of l.names.pool.now l.names.table.now)) bounded (productOf l.a) (productOf l.b)) (l.i + l.j) l.out

abbrev pub decreases-loop-i : goal.decreases-loop-i
decreases-loop-i l = l.m + l.n - (l.i + l.j)
