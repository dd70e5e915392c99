-- `inner::put_line` meets its contract: the head is written last.
use Rattle.engine_matrix.specs.Told.{row_in}
use Rattle.engine.proofs.Factors.{row-few, line-written}
use Rattle.engine.proofs.inner.put_line.Goals as goal

pub returns : goal.returns
returns c = line-written _ (row-few c.args.k (row_in c.args.r)) c.reserve-start.ensures c.put_product.ensures c.begin.ensures
