use Rattle.std.proofs.lemmas.Result.{err_from_is_err_and}
use Rattle.replace.proofs.Walks.{told}
use Rattle.replace.proofs.Constraints.{binding-here, binding-stop}
use Rattle.replace.proofs.inner.constraints.replace_binding.Goals as goal

pub returns : goal.returns
returns c = binding-here c.args.by.names.pool.now c.args.by.names.table.now c.args.by.lent.0 c.args.x c.args.t.tree.0 c.reserve-start.ensures
    (told c.in_ok-replace_type.was c.replace_type.ensures) c.begin.ensures

pub returns-in_err-replace_type : goal.returns-in_err-replace_type
returns-in_err-replace_type c =
    let k = err_from_is_err_and c.from_residual.result c.from_residual.ensures.1
    in rw (k.1, k.2) (binding-stop c.args.by.names.pool.now c.args.by.names.table.now c.args.by.lent.0 c.args.x c.args.t.tree.0
    c.reserve-start.ensures (told c.in_err-replace_type.was c.replace_type.ensures))
