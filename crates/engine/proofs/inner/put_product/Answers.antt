-- `inner::put_product` meets its contract: the head is written last.
use Rattle.engine_matrix.specs.Told.{row_in}
use Rattle.engine.proofs.Factors.{row-few, product-written}
use Rattle.engine.proofs.inner.put_product.Goals as goal

pub returns : goal.returns
returns c = product-written _ (row-few c.args.k (row_in c.args.r)) c.reserve-start.ensures _ c.put_factors-n.ensures c.begin.ensures
