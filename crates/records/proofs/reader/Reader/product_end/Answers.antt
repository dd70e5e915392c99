use Rattle.std.specs.Prelude.{Some, None}
use Rattle.std.proofs.Common.{sym, ◌∙◌, arith}
use Rattle.records.proofs.Parts.{product-dim, product-other}
use Rattle.records.specs.Places.{seen-in}
use Rattle.records.proofs.reader.Reader.product_end.Goals as goal

pub returns-in_default : goal.returns-in_default
returns-in_default c = let a = c.args in product-other a.self a.at (λ n e. c.in_default.not-Dim n (c.view_at.ensures ∙ e))

pub overflow_add-at : goal.overflow_add-at
overflow_add-at c = omega (arith, seen-in _ _ (sym c.in-Dim.ensures) tt)

pub returns-in_err-end : goal.returns-in_err-end
returns-in_err-end c = let a = c.args in
    rw c.from_residual.ensures (product-dim a.self a.at _ (sym c.in-Dim.ensures) None c.in_err-end.ensures)

pub returns : goal.returns
returns c = let a = c.args in rw c.closed.ensures (product-dim a.self a.at _ (sym c.in-Dim.ensures) (Some c.in_ok-end.end) c.in_ok-end.ensures)
