-- `inner::rows::solved_for` meets its contract.
use mathlib.Core.Path.{ap₂, ◌∙◌}
use Rattle.laws.proofs.Ranges.{nought-good}
use Rattle.rules.specs.Elimination.{solvedFor}
use Rattle.engine_matrix.specs.Told.{quotients}
use Rattle.engine_matrix.proofs.inner.rows.solved_for.Goals as goal

pub with_power-requires-clause-power : goal.with_power-requires-clause-power
with_power-requires-clause-power c = nought-good

pub divided-requires : goal.divided-requires
divided-requires c = record { power = rw c.power_at.ensures (c.args.r.good c.args.c) }

pub returns : goal.returns
unfolding solvedFor quotients
returns c = c.divided.ensures ∙ ap₂ quotients c.power_at.ensures c.with_power.ensures
