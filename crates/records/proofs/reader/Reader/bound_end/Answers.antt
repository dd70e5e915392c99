use Rattle.std.proofs.Common.{sym, ◌∙◌, arith}
use Rattle.records.proofs.Parts.{bound-good, bound-fail, bound-other}
use Rattle.records.specs.Places.{seen-in}
use Rattle.records.proofs.reader.Reader.bound_end.Goals as goal

pub returns-in_default : goal.returns-in_default
returns-in_default c = let a = c.args in bound-other a.self a.at (λ o e. c.in_default.not-Bound o (c.view_at.ensures ∙ e))

pub returns-then-not-holds : goal.returns-then-not-holds
returns-then-not-holds c = let a = c.args in bound-fail a.self a.at _ (sym c.in-Bound.ensures) (sym c.if-not-holds.ensures)

pub overflow_add-at : goal.overflow_add-at
overflow_add-at c = omega (arith, seen-in _ _ (sym c.in-Bound.ensures) tt)

pub returns : goal.returns
returns c = let a = c.args in rw c.closed.ensures (bound-good a.self a.at _ (sym c.in-Bound.ensures) (sym c.if-not-holds.ensures))
