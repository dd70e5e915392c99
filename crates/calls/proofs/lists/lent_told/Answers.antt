-- `lent_told` meets its contract.
use mathlib.Core.Path.{ap, sym, ◌∙◌}
use mathlib.Core.Bool.{Bool}
use Rattle.rules.specs.Base.{need}
use Rattle.calls_defined.specs.Saying.{checkedAs}
use Rattle.calls.proofs.lists.lent_told.Goals as goal

pub returns-then-lent : goal.returns-then-lent
returns-then-lent c = c.said.ensures ∙ ap checkedAs (sym (ap (λ (b : Bool). need b 10) c.if-lent.true) ∙ c.lent.ensures)

pub returns-else-lent : goal.returns-else-lent
returns-else-lent c = c.refused.ensures ∙ ap checkedAs (sym (ap (λ (b : Bool). need b 10) c.if-lent.false) ∙ c.lent.ensures)
