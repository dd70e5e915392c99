-- The steps before the place are read.
use native.Mathlib.Omega.{arith}
use Prim.Native.Nat.{ℕ, ◌<◌, ◌/◌}
use lib.ListN.{length, take}
use mathlib.Core.Path.{◌≡◌}
use mathlib.Core.List.{map}
use Rattle.std.proofs.Common.{sym, ap, subst, ◌∙◌, length-set}
use Rattle.std.proofs.lemmas.Result.{err_from_is_err_and}
use Rattle.rules.specs.Base.{got}
use Rattle.rules.specs.Refusals.{toldBy}
use Rattle.lines_entry.specs.Told.{stepOf}
use Rattle.lines_entry.proofs.StepLists.{ReadTo, read_more, read-stops, read-all, stored, line-torn, line-types, line_refused, line-made, line-torn-off}
use Rattle.lines_entry.proofs.inner.parsing.read_steps.Goals as goal

pub returns-then-line-ne0 : goal.returns-then-line-ne0
returns-then-line-ne0 c = line-torn _ _ _ _ c.if-line-ne0.true

pub returns-then-line-ne0-2 : goal.returns-then-line-ne0-2
returns-then-line-ne0-2 c = line-types _ _ _ _ c.if-line-ne0.false c.if-line-ne0-2.true

pub returns-in_err-step : goal.returns-in_err-step
returns-in_err-step c =
    let p = err_from_is_err_and c.from_residual.result c.from_residual.ensures.1 in
    let q = sym (ap (toldBy stepOf) c.in_err-step.was) ∙ c.step.ensures in
    rw (p.1, p.2) (line_refused _ _ _ _ c.if-line-ne0.false c.if-line-ne0-2.false _ (read-stops _ _ _ _ c.loop-i.invariant.1 c.loop-i-test.true _ q))

pub loop-i-preserved : goal.loop-i-preserved
loop-i-preserved c =
    let within : c.loop-i.i < length c.loop-i.list = omega (arith, c.loop-i.invariant.0, c.loop-i-test.true, c.requires.short) in
    let q = sym (ap (toldBy stepOf) c.in_ok-step.was) ∙ c.step.ensures in (
      length-set c.loop-i.list c.loop-i.i c.in_ok-step.step ∙ c.loop-i.invariant.0,
      subst (ReadTo _ _ _) (sym (stored stepOf c.loop-i.list c.loop-i.i c.in_ok-step.step within))
          (read_more _ _ _ _ c.loop-i.invariant.1 c.loop-i-test.true _ q),
    )

pub returns-then-is_whole : goal.returns-then-is_whole
returns-then-is_whole c =
    let end : c.loop-i.i ≡ length c.args.line.steps.now / 4 = omega (arith, c.loop-i.auto.i-end, c.loop-i-test.false) in
    line-made _ _ _ _ c.if-line-ne0.false c.if-line-ne0-2.false _
    (read-all _ _ _ _ c.loop-i.invariant.1 c.loop-i-test.false ∙ ap (λ (n : ℕ). got (map stepOf (take n c.loop-i.list))) end)
    (sym c.is_whole.ensures ∙ c.if-is_whole.true)

pub returns-else-is_whole : goal.returns-else-is_whole
returns-else-is_whole c =
    let end : c.loop-i.i ≡ length c.args.line.steps.now / 4 = omega (arith, c.loop-i.auto.i-end, c.loop-i-test.false) in
    line-torn-off _ _ _ _ c.if-line-ne0.false c.if-line-ne0-2.false _
    (read-all _ _ _ _ c.loop-i.invariant.1 c.loop-i-test.false ∙ ap (λ (n : ℕ). got (map stepOf (take n c.loop-i.list))) end)
    (sym c.is_whole.ensures ∙ c.if-is_whole.false)
