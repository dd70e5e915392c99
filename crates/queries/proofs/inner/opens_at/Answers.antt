-- `inner::opens_at` meets its contract: by the view of the record.
use mathlib.Core.Path.{sym, ap, ◌∙◌}
use Rattle.queries.specs.Scans.{opensView}
use Rattle.queries.proofs.Others.{none-opened}
use Rattle.queries.proofs.inner.opens_at.Goals as goal

pub returns-in-Opened : goal.returns-in-Opened
returns-in-Opened c = ap opensView (sym c.in-Opened.is ∙ c.view_at.ensures)

pub returns-in-Factor : goal.returns-in-Factor
returns-in-Factor c = c.atom_opens.ensures ∙ ap opensView (sym c.in-Factor.is ∙ c.view_at.ensures)

pub returns-in-Binding : goal.returns-in-Binding
returns-in-Binding c = ap opensView (sym c.in-Binding.is ∙ c.view_at.ensures)

pub returns-in_default : goal.returns-in_default
returns-in_default c =
    sym (none-opened c.view_at.result c.in_default.not-Opened c.in_default.not-Factor c.in_default.not-Binding) ∙ ap opensView c.view_at.ensures
