-- `inner::stopped` meets its contract.
use mathlib.Core.Path.{sym, ◌∙◌}
use Rattle.judge_trials.proofs.Trials.{six, not-six}
use Rattle.judge_trials.proofs.inner.stopped.Goals as goal

pub returns-then-number-eq6 : goal.returns-then-number-eq6
returns-then-number-eq6 c = six c.args.why (sym c.number.ensures ∙ c.if-number-eq6.true)

pub returns-else-number-eq6 : goal.returns-else-number-eq6
returns-else-number-eq6 c = not-six c.args.why (λ e. c.if-number-eq6.false (c.number.ensures ∙ e))
