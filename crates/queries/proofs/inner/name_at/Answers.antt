-- `inner::name_at` meets its contract.
use mathlib.Core.Path.{sym, ap, ◌∙◌}
use Rattle.queries.specs.Scans.{choose, toldOpens}
use Rattle.queries.proofs.ScanLaws.{choose-none}
use Rattle.queries.proofs.inner.name_at.Goals as goal

pub returns-in-Some : goal.returns-in-Some
returns-in-Some c = c.chosen.ensures ∙ ap (choose c.args.k) (sym (ap toldOpens c.in-Some.is) ∙ c.opens_at.ensures)

pub returns-in-None : goal.returns-in-None
returns-in-None c = sym (choose-none c.args.k) ∙ ap (choose c.args.k) (sym (ap toldOpens c.in-None.is) ∙ c.opens_at.ensures)
