use Rattle.std.proofs.Common.{◌≤◌}
use Rattle.products.specs.Told.{Tree}
use Rattle.replace.specs.Well.{Whole}
use Rattle.replace.proofs.InProducts.{Going}
use Rattle.replace.proofs.inner.dims.replace_factors.Given as goal

abbrev pub invariant-loop-i : goal.invariant-loop-i
invariant-loop-i l = (l.i ≤ l.p.len) × ((a : Tree) → Whole l.by.names.pool.now l.by.names.table.now l.p a
    → Going l.by.names.pool.now l.by.names.table.now l.p a l.by.lent.0 l.acc l.i)
