-- Those that are left decide.
use Rattle.std.proofs.Common.{ap}
use Rattle.types.proofs.OnSets.{alone, placed-alone}
use Rattle.replace.proofs.Nested.{all-decide, none-deep, first-good, flat-on, too-deep, con-flat, con-deep}
use Rattle.replace.proofs.inner.flat.constraints_flat.Goals as goal

pub constraints-init : goal.constraints-init
constraints-init c =
    let a = c.args in
    rw c.into_iter-c-iterator.ensures.into_iter_gives (rw (placed-alone a.cs.words.now a.cs.at a.cs.trees.0) (all-decide _ _ a.cs.trees.0 c.requires))

pub returns-in_default : goal.returns-in_default
returns-in_default c =
    let d = c.constraints.invariant in
    let e = ap alone c.in-Some.ensures.steps in
    let n = c.args.names in
    too-deep _ _ d _ _ e (con-deep n.pool.now n.table.now _ c.in-Some.c.tree (first-good _ _ d _ _ e) c.in_default.ensures)

pub constraints-preserved : goal.constraints-preserved
constraints-preserved c =
    let n = c.args.names in
    flat-on _ _ c.constraints.invariant _ _ (ap alone c.in-Some.ensures.steps) (con-flat n.pool.now n.table.now _ c.in-Some.c.tree c.in-Some-con_end.ensures)

pub returns : goal.returns
returns c = none-deep _ _ c.constraints.invariant (ap alone c.in-None.ensures.steps.0)
