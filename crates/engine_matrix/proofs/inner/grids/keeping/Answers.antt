-- `inner::grids::keeping` meets its contract.
use native.Mathlib.Omega.{arith}
use Rattle.engine_matrix.specs.Machine.{rest}
use Rattle.engine_matrix.proofs.Steps.{went-keeping}
use Rattle.engine_matrix.proofs.inner.grids.keeping.Goals as goal

pub returns : goal.returns
unfolding rest
returns c cols e i =
    let w = c.with_row-q in
    (omega (arith, c.requires.left), went-keeping c.args.m c.requires.left cols w.result _ w.ensures e i)
