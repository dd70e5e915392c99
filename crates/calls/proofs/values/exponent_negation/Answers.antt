-- `values::exponent_negation` meets its contract.
use mathlib.Core.Path.{ap, ◌∙◌}
use Rattle.rules.specs.Values.{negationCall}
use Rattle.calls_defined.specs.Saying.{powerAs}
use Rattle.calls.proofs.values.exponent_negation.Goals as goal

pub returns : goal.returns
returns c = c.powered.ensures ∙ ap powerAs (c.negate.ensures ∙ ap negationCall c.exponent_at.ensures)
