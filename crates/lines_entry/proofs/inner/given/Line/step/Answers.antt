-- `Line::step` meets its contract: each number has its step.
use mathlib.Core.Path.{refl}
use native.Mathlib.Omega.{arith}
use Rattle.std.proofs.Common.{◌∙◌}
use Rattle.rules.specs.Steps.{adds, subtracts, multiplies, divides, compares, isConstant, isReference, isRaise, stepKind}
use Rattle.lines_entry.proofs.StepLists.{step-as, step-joins, step-chooses, step-unknown}
use Rattle.lines_entry.proofs.inner.given.Line.step.Goals as goal

pub returns-in-1 : goal.returns-in-1
unfolding stepKind
returns-in-1 c = c.constant.ensures ∙ step-as _ _ _ _ _ _ _ 1 isConstant c.in-1.is refl

pub returns-in-2 : goal.returns-in-2
unfolding stepKind
returns-in-2 c = c.reference.ensures ∙ step-as _ _ _ _ _ _ _ 2 isReference c.in-2.is refl

pub returns-in-3 : goal.returns-in-3
unfolding stepKind
returns-in-3 c = c.plain.ensures ∙ step-joins _ _ _ _ _ _ _ 3 adds c.in-3.is refl

pub returns-in-4 : goal.returns-in-4
unfolding stepKind
returns-in-4 c = c.plain-in-4.ensures ∙ step-joins _ _ _ _ _ _ _ 4 subtracts c.in-4.is refl

pub returns-in-5 : goal.returns-in-5
unfolding stepKind
returns-in-5 c = c.plain-in-5.ensures ∙ step-joins _ _ _ _ _ _ _ 5 multiplies c.in-5.is refl

pub returns-in-6 : goal.returns-in-6
unfolding stepKind
returns-in-6 c = c.plain-in-6.ensures ∙ step-joins _ _ _ _ _ _ _ 6 divides c.in-6.is refl

pub returns-in-7 : goal.returns-in-7
unfolding stepKind
returns-in-7 c = c.raise.ensures _ _ _ ∙ step-as _ _ _ _ _ _ _ 7 isRaise c.in-7.is refl

pub returns-in-8 : goal.returns-in-8
unfolding stepKind
returns-in-8 c = c.plain-in-8.ensures ∙ step-joins _ _ _ _ _ _ _ 8 compares c.in-8.is refl

pub returns-in-9 : goal.returns-in-9
returns-in-9 c = c.plain-in-9.ensures ∙ step-chooses _ _ _ _ _ _ _ c.in-9.is

pub returns-in_default : goal.returns-in_default
returns-in_default c = step-unknown _ _ _ _ _ _ _ (λ n p q e. omega (arith, p, q, e, c.in_default))
