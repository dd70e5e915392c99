use Rattle.std.proofs.Common.{◌∙◌}
use Rattle.std.proofs.lemmas.Result.{err_from_is_err_and}
use Rattle.replace.proofs.Kept.{binds-weaker}
use Rattle.replace.proofs.Came.{came, stopped}
use Rattle.solve_round.proofs.Rebinding.{others-stop, bindings-stop, rebound, rebinds-is, known, rebind-made}
use Rattle.solve_round.proofs.Written.{limited-turned, next-stops}
use Rattle.solve_round.proofs.inner.rebind.Goals as goal

pub replace_bindings-requires : goal.replace_bindings-requires
replace_bindings-requires c = binds-weaker c.args.by.names.pool.now c.args.by.names.table.now c.args.rest.bindings.trees.0 c.requires.sound.bindings.good

pub returns-in_err-replace_others : goal.returns-in_err-replace_others
returns-in_err-replace_others c = λ x t h e.
    let k = err_from_is_err_and c.from_residual.result c.from_residual.ensures.1 in
    rw (k.1, k.2) (next-stops c.replace_others.ensures.same
    (others-stop c.args.by.names.pool.now c.args.by.names.table.now h c.args.rest c.requires.sound _ e
    (stopped c.in_err-replace_others.was c.replace_others.ensures)))

pub returns-in_err-replace_bindings : goal.returns-in_err-replace_bindings
returns-in_err-replace_bindings c = λ x t h e.
    let k = err_from_is_err_and c.from_residual-in_err-replace_bindings.result c.from_residual-in_err-replace_bindings.ensures.1 in
    let u = came c.in_ok-replace_others.was c.replace_others.ensures in
    rw (k.1, k.2) (next-stops (c.replace_bindings.ensures.same ∙ c.replace_others.ensures.same)
    (bindings-stop c.args.by.names.pool.now c.args.by.names.table.now h c.args.rest c.requires.sound _ e u.is
    (stopped c.in_err-replace_bindings.was c.replace_bindings.ensures)))

pub limited-requires : goal.limited-requires
limited-requires c =
    let (x, t, h, e) = c.requires.bound in
    let s = c.requires.sound in
    let u = came c.in_ok-replace_others.was c.replace_others.ensures in
    let z = came c.in_ok-replace_bindings.was c.replace_bindings.ensures in
    record {
      made = (
        rebound c.args.by.names.pool.now c.args.by.names.table.now h c.args.rest s _ e u.is z.is,
        rebind-made c.args.by.names.pool.now c.args.by.names.table.now h c.args.rest s _ e u.is z.is c.requires.front c.requires.room
            c.requires.near u.wrote z.wrote c.copy_bindings.ensures,
        known c.args.by.names.pool.now c.args.by.names.table.now h c.args.rest s _ e u.is z.is (c.binds_leaf-flat.ensures x t h.is),
      );
    }

pub returns : goal.returns
returns c = λ x t h e.
    let s = c.requires.sound in
    let u = came c.in_ok-replace_others.was c.replace_others.ensures in
    let z = came c.in_ok-replace_bindings.was c.replace_bindings.ensures in
    let m = rebind-made c.args.by.names.pool.now c.args.by.names.table.now h c.args.rest s _ e u.is z.is c.requires.front c.requires.room
    c.requires.near u.wrote z.wrote c.copy_bindings.ensures in
    let l = c.limited.ensures (rebound c.args.by.names.pool.now c.args.by.names.table.now h c.args.rest s _ e u.is z.is) m
    (known c.args.by.names.pool.now c.args.by.names.table.now h c.args.rest s _ e u.is z.is (c.binds_leaf-flat.ensures x t h.is)) in
    record {
      same = c.copy_bindings.ensures.same ∙ c.replace_bindings.ensures.same ∙ c.replace_others.ensures.same;
      turned = limited-turned c.args.by.names.pool.now c.args.by.names.table.now _ _ _ m _
          (rebinds-is c.args.by.names.pool.now c.args.by.names.table.now h c.args.rest s _ e u.is z.is) l;
    }
