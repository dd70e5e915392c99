use Rattle.std.proofs.lemmas.Result.{err_from_is_err_and}
use Rattle.replace.proofs.Came.{came, stopped}
use Rattle.replace.proofs.Kept.{cons-weaker}
use Rattle.replace.specs.Leaves.{conBy}
use Rattle.solve_round.proofs.Rebinding.{both-written, first-stops}
use Rattle.solve_round.proofs.inner.replace_others.Goals as goal

pub replace_constraints-requires : goal.replace_constraints-requires
replace_constraints-requires c = cons-weaker c.args.by.names.pool.now c.args.by.names.table.now c.args.rest.before.trees.0 c.requires.before.good

pub replace_constraints-requires-2 : goal.replace_constraints-requires-2
replace_constraints-requires-2 c = cons-weaker c.args.by.names.pool.now c.args.by.names.table.now c.args.rest.behind.trees.0 c.requires.behind.good

pub returns-in_err-replace_constraints : goal.returns-in_err-replace_constraints
returns-in_err-replace_constraints c =
    let k = err_from_is_err_and c.from_residual.result c.from_residual.ensures.1 in
    rw (k.1, k.2) (first-stops (conBy c.args.by) c.args.rest c.replace_constraints.ensures.same
    (stopped c.in_err-replace_constraints.was c.replace_constraints.ensures))

pub returns : goal.returns
returns c = both-written (conBy c.args.by) c.args.rest (came c.in_ok-replace_constraints.was c.replace_constraints.ensures) c.replace_constraints-2.ensures
