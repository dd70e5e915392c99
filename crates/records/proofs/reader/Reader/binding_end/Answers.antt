use Rattle.std.specs.Prelude.{Some, None}
use Rattle.std.proofs.Common.{sym, ◌∙◌, arith}
use Rattle.rules.specs.Names.{table_of}
use Rattle.records.proofs.Parts.{binding-type, binding-name, binding-other}
use Rattle.records.specs.Places.{seen-in}
use Rattle.records.proofs.reader.Reader.binding_end.Goals as goal

pub returns-in_default : goal.returns-in_default
returns-in_default c = let a = c.args in binding-other a.self a.at (λ x e. c.in_default.not-Binding x (c.view_at.ensures ∙ e))

pub returns-then-not-is_held : goal.returns-then-not-is_held
unfolding table_of
returns-then-not-is_held c = let a = c.args
    in binding-name a.self a.at c.in-Binding.x (sym c.in-Binding.ensures) (sym c.if-not-is_held.ensures)

pub overflow_add-at : goal.overflow_add-at
overflow_add-at c = omega (arith, seen-in _ _ (sym c.in-Binding.ensures) tt)

pub returns-in_err-end : goal.returns-in_err-end
unfolding table_of
returns-in_err-end c = let a = c.args in rw c.from_residual.ensures
    (binding-type a.self a.at c.in-Binding.x (sym c.in-Binding.ensures) (sym c.if-not-is_held.ensures) None c.in_err-end.ensures)

pub returns : goal.returns
unfolding table_of
returns c = let a = c.args in rw c.closed.ensures
    (binding-type a.self a.at c.in-Binding.x (sym c.in-Binding.ensures) (sym c.if-not-is_held.ensures) (Some c.in_ok-end.end) c.in_ok-end.ensures)
