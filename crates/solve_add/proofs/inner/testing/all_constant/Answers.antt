use Rattle.std.proofs.Common.{sym, ◌∙◌}
use Rattle.solve_add.proofs.Tests.{variable-here, variable-later, no-variable}
use Rattle.solve_add.proofs.inner.testing.all_constant.Goals as goal

pub returns-then-not-is_constant : goal.returns-then-not-is_constant
returns-then-not-is_constant c = variable-here _ _ _ _ c.in-Some.ensures.steps (sym c.if-not-is_constant.ensures) ∙ c.factors.invariant

pub factors-preserved : goal.factors-preserved
factors-preserved c = variable-later _ _ _ _ c.in-Some.ensures.steps (sym c.if-not-is_constant.ensures) ∙ c.factors.invariant

pub returns : goal.returns
returns c = no-variable _ c.in-None.ensures.steps.0 ∙ c.factors.invariant
