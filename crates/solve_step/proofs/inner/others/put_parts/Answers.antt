use Rattle.solve_step.proofs.Others.{still-named, still-passed, still-none}
use Rattle.solve_step.proofs.Written.{is-dim-written}
use Rattle.solve_step.proofs.inner.others.put_parts.Goals as goal

pub factors-preserved-in-Some-name_of : goal.factors-preserved-in-Some-name_of
factors-preserved-in-Some-name_of c =
    still-named _ _ _ _ _ _ _ _ c.in-Some-name_of.x c.factors.invariant c.in-Some.ensures.steps c.in-Some-name_of.ensures
    (is-dim-written _ c.put.ensures c.put-in-Some-name_of.ensures)

pub factors-preserved : goal.factors-preserved
factors-preserved c = still-passed _ _ _ _ _ _ _ c.factors.invariant c.in-Some.ensures.steps c.in_default.ensures

pub returns : goal.returns
returns c = still-none _ _ _ _ c.factors.invariant c.in-None.ensures.steps.0
