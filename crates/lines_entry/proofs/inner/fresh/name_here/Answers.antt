-- `inner::fresh::name_here` meets its contract.
use mathlib.Core.Path.{sym, ap, ◌∙◌}
use Rattle.lines_entry.specs.Used.{namesView}
use Rattle.lines_entry.proofs.Others.{none_named}
use Rattle.lines_entry.proofs.inner.fresh.name_here.Goals as goal

pub returns-in-Opened : goal.returns-in-Opened
returns-in-Opened c = c.open_name.ensures ∙ ap namesView (sym c.in-Opened.is ∙ c.view_at.ensures)

pub returns-in-Struct : goal.returns-in-Struct
returns-in-Struct c = ap namesView (sym c.in-Struct.is ∙ c.view_at.ensures)

pub returns-in-Field : goal.returns-in-Field
returns-in-Field c = ap namesView (sym c.in-Field.is ∙ c.view_at.ensures)

pub returns-in-Factor : goal.returns-in-Factor
returns-in-Factor c = c.atom_name.ensures ∙ ap namesView (sym c.in-Factor.is ∙ c.view_at.ensures)

pub returns-in_default : goal.returns-in_default
returns-in_default c =
    let d = c.in_default in
    sym (none_named c.view_at.result d.not-Opened d.not-Struct d.not-Field d.not-Factor) ∙ ap namesView c.view_at.ensures
