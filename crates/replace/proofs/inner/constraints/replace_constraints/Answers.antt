-- What is left to write decides.
use Rattle.std.proofs.Common.{ap}
use Rattle.std.proofs.lemmas.Result.{err_from_is_err_and}
use Rattle.types.proofs.OnSets.{alone, placed-alone}
use Rattle.replace.proofs.Each.{still-all, still-good, still-more, still-stops, still-ends}
use Rattle.replace.proofs.Walks.{told}
use Rattle.replace.proofs.inner.constraints.replace_constraints.Goals as goal

pub constraints-init : goal.constraints-init
constraints-init c =
    let a = c.args in
    rw c.into_iter-c-iterator.ensures.into_iter_gives
    (rw (placed-alone a.cs.words.now a.cs.at a.cs.trees.0) (still-all _ _ _ a.out.now a.cs.trees.0 c.requires))

pub replace_constraint-requires : goal.replace_constraint-requires
replace_constraint-requires c = still-good _ _ _ c.constraints.invariant _ _ (ap alone c.in-Some.ensures.steps)

pub constraints-preserved : goal.constraints-preserved
constraints-preserved c = still-more _ _ _ c.constraints.invariant _ _ (ap alone c.in-Some.ensures.steps)
    (told c.in_ok-replace_constraint.was c.replace_constraint.ensures)

pub returns-in_err-replace_constraint : goal.returns-in_err-replace_constraint
returns-in_err-replace_constraint c =
    let k = err_from_is_err_and c.from_residual.result c.from_residual.ensures.1 in
    rw (k.1, k.2) (still-stops _ _ _ c.constraints.invariant _ _ (ap alone c.in-Some.ensures.steps)
    (told c.in_err-replace_constraint.was c.replace_constraint.ensures))

pub returns : goal.returns
returns c = still-ends _ _ _ c.constraints.invariant (ap alone c.in-None.ensures.steps.0)
