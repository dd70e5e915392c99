-- Sheet after sheet is counted.
use Rattle.std.proofs.Common.{arith, ap, ◌∙◌}
use Rattle.rules.specs.Base.{oneIf}
use Rattle.laws.proofs.Numbers.{yes_at_most, yes_counts}
use Rattle.edition_told.proofs.Counting.{none-counted, one-counted, all-counted}
use Rattle.edition_told.proofs.telling.Telling.add_sheets.Goals as goal

pub loop-sheet-init : goal.loop-sheet-init
loop-sheet-init c = none-counted _ _

pub overflow_add-accepted : goal.overflow_add-accepted
overflow_add-accepted c = omega (arith, c.loop-sheet.invariant.few, c.loop-sheet-test.true, yes_at_most _ c.from-accepted.ensures)

pub loop-sheet-preserved : goal.loop-sheet-preserved
loop-sheet-preserved c = one-counted _ _ _ _ c.loop-sheet.invariant (omega (arith, c.loop-sheet-test.true)) c.sheet-item.result _ c.sheet-item.is _
    (yes_at_most _ c.from-accepted.ensures) (λ p i. yes_counts _ c.from-accepted.ensures ∙ ap oneIf (c.in_ok-told.ensures p i))

pub returns : goal.returns
returns c = all-counted _ _ _ _ c.loop-sheet.invariant (omega (arith, c.loop-sheet-test.false))
