-- Those that are left decide.
use Rattle.replace.proofs.Nested.{all-decide, none-deep, first-good, flat-on, too-deep, bound-flat, bound-deep}
use Rattle.replace.proofs.inner.flat.bindings_flat.Goals as goal

pub bindings-init : goal.bindings-init
bindings-init c = rw c.into_iter-b-iterator.ensures.into_iter_gives (all-decide _ _ c.args.bs.trees.0 c.requires)

pub returns-in_default : goal.returns-in_default
returns-in_default c =
    let d = c.bindings.invariant in
    let e = c.in-Some.ensures.steps in
    let n = c.args.names in
    too-deep _ _ d _ _ e (bound-deep n.pool.now n.table.now _ c.in-Some.b.name c.in-Some.b.to.tree (first-good _ _ d _ _ e) c.in_default.ensures)

pub bindings-preserved : goal.bindings-preserved
bindings-preserved c =
    let n = c.args.names in
    flat-on _ _ c.bindings.invariant _ _ c.in-Some.ensures.steps
    (bound-flat n.pool.now n.table.now _ c.in-Some.b.name c.in-Some.b.to.tree c.in-Some-type_end.ensures)

pub returns : goal.returns
returns c = none-deep _ _ c.bindings.invariant c.in-None.ensures.steps.0
