-- `inner::try_all` meets its contract.
use Rattle.std.specs.Prelude.{Ok, is_none}
use Rattle.std.proofs.Common.{sym, ap, ◌∙◌}
use Rattle.rules.specs.Refusals.{toldBy}
use Rattle.judge_trials.proofs.Failing.{verdict}
use Rattle.judge_trials.proofs.inner.try_all.Goals as goal

pub returns-in-Ok-None : goal.returns-in-Ok-None
returns-in-Ok-None c = λ cs bs xs h l m.
    ap (toldBy is_none) (sym (c.in-Ok-None.is ∙ ap Ok c.in-Ok-None.field-0-is)) ∙ verdict _ _ bs xs cs _ (c.first_failing.ensures cs bs xs h l m)

pub returns-in-Ok-Some : goal.returns-in-Ok-Some
returns-in-Ok-Some c = λ cs bs xs h l m.
    ap (toldBy is_none) (sym (c.in-Ok-Some.is ∙ ap Ok c.in-Ok-Some.field-0-is)) ∙ verdict _ _ bs xs cs _ (c.first_failing.ensures cs bs xs h l m)

pub returns-in-Err : goal.returns-in-Err
returns-in-Err c = λ cs bs xs h l m.
    ap (toldBy is_none) (sym c.in-Err.is) ∙ verdict _ _ bs xs cs _ (c.first_failing.ensures cs bs xs h l m)
