-- `one_uses` meets its contract.
use mathlib.Core.Path.{refl, sym, ap, ◌∙◌}
use lib.Dec.{eqb}
use Rattle.rules.specs.Base.{any}
use Rattle.lines_entry.specs.declared.inner.steps.Step.{Step}
use Rattle.rules.specs.Lines.{namesOfStep}
use Rattle.lines_entry.specs.Told.{stepOf}
use Rattle.lines_entry.proofs.Used.{used-hit, used-miss, used-none}
use Rattle.lines_entry.proofs.inner.fresh.one_uses.Goals as goal

pub loop-step-init : goal.loop-step-init
loop-step-init c = refl

pub returns-then-step_uses : goal.returns-then-step_uses
returns-then-step_uses c = used-hit namesOfStep stepOf _ _ _ _ c.loop-step-test.true (ap (λ (s : Step). any (eqb c.args.x) (namesOfStep (stepOf s)))
    (sym c.step-item.is) ∙ sym c.step_uses.ensures ∙ c.if-step_uses.true)
    ∙ c.loop-step.invariant

pub loop-step-preserved : goal.loop-step-preserved
loop-step-preserved c = used-miss namesOfStep stepOf _ _ _ _ c.loop-step-test.true (ap (λ (s : Step). any (eqb c.args.x) (namesOfStep (stepOf s)))
    (sym c.step-item.is) ∙ sym c.step_uses.ensures ∙ c.if-step_uses.false)
    ∙ c.loop-step.invariant

pub returns : goal.returns
returns c = used-none namesOfStep stepOf _ _ _ c.loop-step-test.false ∙ c.loop-step.invariant
