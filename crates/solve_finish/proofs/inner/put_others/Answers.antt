use Rattle.solve_finish.proofs.Others.{still-all, still-written, still-passed, still-none}
use Rattle.solve_finish.proofs.inner.put_others.Goals as goal

pub others-init : goal.others-init
others-init c =
    let cs = c.args.constraints in
    rw c.into_iter-c-iterator.ensures.into_iter_gives (still-all c.args.out.now c.args.out.now cs.trees.0 cs.words.now cs.at)

pub others-preserved-then-is_none : goal.others-preserved-then-is_none
others-preserved-then-is_none c =
    still-written _ _ _ _ _ _ c.in-Some.ensures.steps c.others.invariant _ c.bound_of.ensures c.if-is_none.ensures c.copy_constraint.ensures

pub others-preserved : goal.others-preserved
others-preserved c = still-passed _ _ _ _ _ _ c.in-Some.ensures.steps c.others.invariant _ c.bound_of.ensures c.if-is_none.ensures

pub returns : goal.returns
returns c = still-none _ _ _ _ c.in-None.ensures.steps.0 c.others.invariant
