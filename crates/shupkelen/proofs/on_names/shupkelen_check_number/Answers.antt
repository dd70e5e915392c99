-- `on_names::shupkelen_check_number` meets its contract.
use mathlib.Core.Path.{ap, ◌∙◌}
use Rattle.rules.specs.Numbers.{refusalIn}
use Rattle.shupkelen.proofs.Handing.{same_number}
use Rattle.shupkelen.proofs.on_names.shupkelen_check_number.Goals as goal

pub returns : goal.returns
returns c = c.number.ensures ∙ ap refusalIn c.check_number.ensures ∙ same_number _
