-- `inner::rises` meets its contract.
use Rattle.std.proofs.Common.{ap, ◌∙◌}
use Rattle.rules.specs.WellFormed.{is_lt}
use Rattle.text_types.proofs.inner.rises.Goals as goal

pub returns-in-None : goal.returns-in-None
returns-in-None c = λ h. rw c.in-None.is

pub returns-in-Some : goal.returns-in-Some
returns-in-Some c = λ h. rw c.in-Some.is (c.is_less.ensures ∙ ap is_lt c.order.ensures)
