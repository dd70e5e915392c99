-- `inner::set_given` meets its contract.
use Rattle.compaction.proofs.Checks.{set-met}
use Rattle.compaction.proofs.inner.set_given.Goals as goal

pub returns : goal.returns
returns c = let a = c.args in set-met a.names.pool.now a.names.table.now a.words.now (record { word = λ i. (c.type_inv.words i).fits }) c.requires
    c.set_good.result c.set_good.ensures
