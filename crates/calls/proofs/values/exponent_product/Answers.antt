-- `values::exponent_product` meets its contract.
use mathlib.Core.Path.{ap, ap₂, ◌∙◌}
use Rattle.rules.specs.Values.{timesCall}
use Rattle.calls_defined.specs.Saying.{powerAs}
use Rattle.calls.proofs.values.exponent_product.Goals as goal

pub returns : goal.returns
returns c = c.powered.ensures ∙ ap powerAs (c.multiply.ensures ∙ ap₂ timesCall c.exponent_at.ensures c.exponent_at-2.ensures)
