-- `inner::put_binding` meets its contract: the head is written last.
use Rattle.engine_matrix.specs.Told.{row_in}
use Rattle.engine_matrix.specs.Machine.{colsIn}
use Rattle.engine.proofs.Factors.{row-few, binding-written}
use Rattle.engine.proofs.inner.put_binding.Goals as goal

pub returns : goal.returns
returns c =
    let a = c.args in
    binding-written (colsIn a.k) a.x (row_in a.r) (row-few a.k (row_in a.r)) c.reserve-start.ensures c.put_product.ensures c.begin.ensures
