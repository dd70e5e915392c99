-- `inner::start` meets its contract.
use mathlib.Core.Path.{refl}
use mathlib.Core.List.{[]}
use native.Mathlib.Omega.{arith}
use Rattle.rules.specs.Elimination.{eliminate}
use Rattle.engine_matrix.specs.Machine.{rest, whole, pairValues}
use Rattle.engine_rows.specs.Lines.{rowsOf}
use Rattle.engine.proofs.Started.{nothing-kept}
use Rattle.engine.proofs.inner.start.Goals as goal

pub invariant_of-result : goal.invariant_of-result
invariant_of-result c = record { named = refl; here = omega (arith, c.args.lines.few); room = omega (arith, c.args.lines.few) }

pub returns : goal.returns
unfolding rest whole pairValues
returns c cols = nothing-kept (eliminate cols c.args.lines.len (rowsOf c.args.lines) [])
