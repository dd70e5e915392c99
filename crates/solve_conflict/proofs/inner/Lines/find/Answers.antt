-- `inner::Lines::find` meets its contract.
use Rattle.std.specs.Prelude.{Ok}
use Rattle.std.proofs.Common.{arith, ap, ◌∙◌}
use Rattle.std.proofs.lemmas.Result.{err_from_is_err_and}
use Rattle.solve_conflict.proofs.Testing.{few}
use Rattle.solve_conflict.proofs.Finding.{all-on, find-refused, find-none, find-stopped, find-some}
use Rattle.solve_conflict.proofs.inner.Lines.find.Goals as goal

pub returns-in_err-is_refused : goal.returns-in_err-is_refused
returns-in_err-is_refused c =
    let p = err_from_is_err_and c.from_residual.result c.from_residual.ensures.1 in
    rw (p.1, p.2)
    (find-refused _ c.args.self.set.all.trees.0
    (omega (arith, few c.args.self.set.all.trees.0, c.args.self.set.fine.small)) _ c.is_refused.ensures _ _ c.in_err-is_refused.was)

pub returns-then-not-branch : goal.returns-then-not-branch
returns-then-not-branch c =
    find-none _ c.args.self.set.all.trees.0 (omega (arith, few c.args.self.set.all.trees.0, c.args.self.set.fine.small)) _ c.is_refused.ensures _
    (c.in_ok-is_refused.was ∙ ap Ok c.if-not-branch.true)

pub count-n-requires : goal.count-n-requires
count-n-requires c = omega (arith, few c.args.self.set.all.trees.0, c.args.self.set.fine.small)

pub leave_out-requires-clause-whole : goal.leave_out-requires-clause-whole
leave_out-requires-clause-whole c = all-on _ (omega (arith, few c.args.self.set.all.trees.0, c.args.self.set.fine.small, c.count-n.ensures))

pub returns-in_err-leave_out : goal.returns-in_err-leave_out
returns-in_err-leave_out c =
    let p = err_from_is_err_and c.from_residual-in_err-leave_out.result c.from_residual-in_err-leave_out.ensures.1 in
    rw (p.1, p.2) (find-stopped _ c.args.self.set.all.trees.0 (omega (arith, few c.args.self.set.all.trees.0, c.args.self.set.fine.small)) _
    c.is_refused.ensures (c.in_ok-is_refused.was ∙ ap Ok c.if-not-branch.false) _ c.count-n.ensures _ _ c.leave_out.ensures _ _ c.in_err-leave_out.was)

pub put_places-requires-clause-few : goal.put_places-requires-clause-few
put_places-requires-clause-few c = omega (arith, few c.args.self.set.all.trees.0, c.args.self.set.fine.small)

pub returns : goal.returns
returns c =
    find-some _ c.args.self.set.all.trees.0 (omega (arith, few c.args.self.set.all.trees.0, c.args.self.set.fine.small)) _ c.is_refused.ensures
    (c.in_ok-is_refused.was ∙ ap Ok c.if-not-branch.false) _ c.count-n.ensures _ _ c.leave_out.ensures _ _ _ _ c.in_ok-leave_out.was c.put_places.ensures
