-- `inner::rows::power_at` meets its contract.
use Rattle.engine_matrix.proofs.Loops.{power-at}
use Rattle.engine_matrix.proofs.inner.rows.power_at.Goals as goal

pub returns : goal.returns
returns c = power-at c.args.r c.args.j _ c.requires.column
