-- `inner::grids::dropped` meets its contract.
use native.Mathlib.Omega.{arith}
use Rattle.engine_matrix.specs.Machine.{rest}
use Rattle.engine_matrix.proofs.Steps.{went-dropped}
use Rattle.engine_matrix.proofs.inner.grids.dropped.Goals as goal

pub returns : goal.returns
unfolding rest
returns c cols e = (omega (arith, c.requires.left), went-dropped c.args.m c.requires.left cols e)
