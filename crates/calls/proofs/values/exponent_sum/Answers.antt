-- `values::exponent_sum` meets its contract.
use mathlib.Core.Path.{ap, ap₂, ◌∙◌}
use Rattle.rules.specs.Values.{sumCall}
use Rattle.calls_defined.specs.Saying.{powerAs}
use Rattle.calls.proofs.values.exponent_sum.Goals as goal

pub returns : goal.returns
returns c = c.powered.ensures ∙ ap powerAs (c.add.ensures ∙ ap₂ sumCall c.exponent_at.ensures c.exponent_at-2.ensures)
