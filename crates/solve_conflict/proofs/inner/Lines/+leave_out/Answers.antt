-- `inner::Lines::leave_out` meets its contract.
use Rattle.std.specs.Prelude.{Ok, ◌≡◌, ◌-◌, suc}
use Rattle.std.proofs.Common.{arith, inl, inr, ap, ◌∙◌}
use Rattle.std.proofs.lemmas.Result.{err_from_is_err_and}
use Rattle.solve_conflict.proofs.Testing.{few}
use Rattle.solve_conflict.proofs.Halving.{left-refused, left-none, left-all, left-first, left-both, deeper}
use Rattle.solve_conflict.proofs.inner.Lines.+leave_out.Goals as goal
use Rattle.solve_conflict.proofs.inner.Lines.+leave_out.Goals.{
  then-halvings-eq0-via-then-halvings-eq0,
  then-halvings-eq0-via-else-halvings-eq0+then-to-from-le1,
}

pub switch-requires-clause-within : goal.switch-requires-clause-within
switch-requires-clause-within t c = omega (arith, few c.args.self.set.all.trees.0, c.args.self.set.fine.small, c.requires.within)

pub returns-in_err-is_refused : goal.returns-in_err-is_refused
returns-in_err-is_refused t c =
    let p = err_from_is_err_and c.from_residual.result c.from_residual.ensures.1 in
    rw (p.1, p.2) (left-refused _ _ _ _ c.requires.order c.requires.within _ _ c.switch.ensures _ c.is_refused.ensures _ _ c.in_err-is_refused.was)

pub returns-then-branch : goal.returns-then-branch
returns-then-branch t c =
    left-none _ _ _ _ c.requires.order c.requires.within _ _ c.switch.ensures _ c.is_refused.ensures _ (c.in_ok-is_refused.was ∙ ap Ok c.if-branch.true)

pub switch-requires-2-clause-within : goal.switch-requires-2-clause-within
switch-requires-2-clause-within t c = omega (arith, few c.args.self.set.all.trees.0, c.args.self.set.fine.small, c.requires.within)

pub returns-then-halvings-eq0 : goal.returns-then-halvings-eq0
returns-then-halvings-eq0 t c =
    let e = c.in_ok-is_refused.was ∙ ap Ok c.if-branch.false in
    left-all _ _ _ _ c.requires.order c.requires.within _ _ c.switch.ensures _ c.is_refused.ensures e _ c.switch-2.ensures _
    (elim c.then-halvings-eq0.branch [
      | then-halvings-eq0-via-then-halvings-eq0 w ↦ inl w.if-halvings-eq0.true
      | then-halvings-eq0-via-else-halvings-eq0+then-to-from-le1 w ↦ inr w.if-to-from-le1.true
    ])

pub returns-in_err-leave_out : goal.returns-in_err-leave_out
returns-in_err-leave_out t c =
    let e = c.in_ok-is_refused.was ∙ ap Ok c.if-branch.false in
    let p = err_from_is_err_and c.from_residual-in_err-leave_out.result c.from_residual-in_err-leave_out.ensures.1 in
    let n : c.args.halvings ≡ suc (c.args.halvings - 1) = omega (arith, c.if-halvings-eq0.false) in
    rw (p.1, p.2) (deeper n
    (left-first _ _ _ _ c.requires.order c.requires.within _ _ c.switch.ensures _ c.is_refused.ensures e _ c.switch-2.ensures _
    (omega (arith, c.if-to-from-le1.false)) _ _ c.leave_out.ensures _ c.in_err-leave_out.was))

pub returns : goal.returns
returns t c =
    let e = c.in_ok-is_refused.was ∙ ap Ok c.if-branch.false in
    let n : c.args.halvings ≡ suc (c.args.halvings - 1) = omega (arith, c.if-halvings-eq0.false) in
    deeper n
    (left-both _ _ _ _ c.requires.order c.requires.within _ _ c.switch.ensures _ c.is_refused.ensures e _ c.switch-2.ensures _
    (omega (arith, c.if-to-from-le1.false)) _ _ c.leave_out.ensures _ c.in_ok-leave_out.was _ _ c.leave_out-2.ensures)
