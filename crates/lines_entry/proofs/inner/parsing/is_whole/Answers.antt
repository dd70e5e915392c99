-- `is_whole` meets its contract.
use mathlib.Core.Path.{refl, ap, ◌∙◌}
use native.Mathlib.Omega.{arith}
use Rattle.rules.specs.Steps.{operands}
use Rattle.lines_entry.specs.declared.inner.steps.Step.{Step}
use Rattle.lines_entry.specs.Told.{stepOf}
use Rattle.lines_entry.proofs.StepLists.{whole-on, whole-off, whole-end}
use Rattle.lines_entry.proofs.inner.parsing.is_whole.Goals as goal

pub loop-step-init : goal.loop-step-init
loop-step-init c = (omega arith, refl)

pub returns-then-n-taken : goal.returns-then-n-taken
returns-then-n-taken c = whole-off _ _ stepOf _ _ c.loop-step-test.true _ (c.operands-taken.ensures ∙ ap (λ (x : Step). operands
    (stepOf x)) c.step-item.is) c.if-n-taken.true ∙ c.loop-step.invariant.1

pub loop-step-preserved : goal.loop-step-preserved
loop-step-preserved c = (
  omega (arith, c.loop-step.invariant.0),
  whole-on _ _ stepOf _ _ c.loop-step-test.true _ (c.operands-taken.ensures ∙ ap (λ (x : Step). operands (stepOf x)) c.step-item.is) c.if-n-taken.false
      ∙ c.loop-step.invariant.1,
)

pub returns : goal.returns
returns c = whole-end _ _ stepOf _ c.loop-step-test.false ∙ c.loop-step.invariant.1
