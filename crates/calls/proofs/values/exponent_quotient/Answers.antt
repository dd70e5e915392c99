-- `values::exponent_quotient` meets its contract.
use mathlib.Core.Path.{ap, ap₂, ◌∙◌}
use Rattle.rules.specs.Values.{quotientCall}
use Rattle.calls_defined.specs.Saying.{powerAs}
use Rattle.calls.proofs.values.exponent_quotient.Goals as goal

pub returns : goal.returns
returns c = c.powered.ensures ∙ ap powerAs (c.divide.ensures ∙ ap₂ quotientCall c.exponent_at.ensures c.exponent_at-2.ensures)
