-- `inner::base_at` meets its contract.
use mathlib.Core.Path.{ap, ◌∙◌, sym}
use Rattle.engine_rows.specs.Columns.{basesView}
use Rattle.engine_rows.proofs.Others.{unfactor}
use Rattle.engine_rows.proofs.inner.base_at.Goals as goal

pub returns-in-Factor : goal.returns-in-Factor
returns-in-Factor c = c.base_of.ensures ∙ sym (ap basesView c.in-Factor.is)

pub returns-in_default : goal.returns-in_default
returns-in_default c = unfactor c.args.v c.in_default.not-Factor
