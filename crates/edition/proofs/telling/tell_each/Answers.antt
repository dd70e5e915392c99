-- `tell_each` meets its contract: sheet after sheet.
use Rattle.std.specs.Prelude.{refl}
use Rattle.std.proofs.Common.{rules, ◌≡◌, Err, arith, ap, ◌∙◌}
use Rattle.rules.specs.Base.{oneIf}
use Rattle.laws.proofs.Numbers.{yes_at_most, yes_counts}
use Rattle.edition.proofs.Told.{none-told, one-told, one-cut, all-told, all-counted}
use Rattle.edition.proofs.telling.tell_each.Goals as goal

pub loop-sheet-init : goal.loop-sheet-init
loop-sheet-init g c = none-told _ _ _ _ _

pub overflow_add-accepted : goal.overflow_add-accepted
overflow_add-accepted g c = omega (arith, c.loop-sheet.invariant.few, c.loop-sheet-test.true, yes_at_most _ c.from-accepted.ensures)

pub loop-sheet-preserved : goal.loop-sheet-preserved
loop-sheet-preserved g c =
    one-told _ _ _ _ _ _ _ c.loop-sheet.invariant (omega (arith, c.loop-sheet-test.true)) c.sheet-item.result _ c.sheet-item.is _
    (yes_at_most _ c.from-accepted.ensures)
    (λ p i. c.in_ok-yes.ensures.told p i) (λ p i. yes_counts _ c.from-accepted.ensures ∙ ap oneIf (c.in_ok-yes.ensures.found p i))

pub returns-in_err-yes : goal.returns-in_err-yes
returns-in_err-yes g c =
    let r : c.from_residual.result ≡ Err c.in_err-yes.field-0.0 = search rules in
    record {
      told = λ ps h. rw r (one-cut _ _ _ _ _ _ _ c.loop-sheet.invariant (omega (arith, c.loop-sheet-test.true)) c.sheet-item.result _ c.sheet-item.is
          _ refl (λ p i. c.in_err-yes.ensures.told p i) ps h);
      counted = λ ps h. rw r tt;
    }

pub returns : goal.returns
returns g c = record {
  told = λ ps h. all-told _ _ _ _ _ _ _ c.loop-sheet.invariant (omega (arith, c.loop-sheet-test.false)) ps h;
  counted = λ ps h. all-counted _ _ _ _ _ _ _ c.loop-sheet.invariant (omega (arith, c.loop-sheet-test.false)) ps h;
}
