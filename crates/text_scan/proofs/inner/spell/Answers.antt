-- `inner::spell` meets its contract: what is left to spell.
use mathlib.Core.Path.{refl, sym, ◌∙◌}
use native.Mathlib.Omega.{arith}
use Rattle.text_scan.proofs.Scanned.{spelt-whole, spelt-end, spelt-other, spelt-step}
use Rattle.text_scan.proofs.inner.spell.Goals as goal

pub loop-b-init : goal.loop-b-init
loop-b-init c = record { within = omega (arith, c.requires); is = refl }

pub returns-then-line-i : goal.returns-then-line-i
returns-then-line-i c = sym (spelt-end _ _ c.loop-b.i c.loop-b.b-index (omega arith) c.if-line-i.true) ∙ c.loop-b.invariant.is

pub returns-then-line-i-2 : goal.returns-then-line-i-2
returns-then-line-i-2 c = sym (spelt-other _ _ c.loop-b.i c.loop-b.b-index (omega arith) (omega arith) c.if-line-i-2.true) ∙ c.loop-b.invariant.is

pub loop-b-preserved : goal.loop-b-preserved
loop-b-preserved c =
    record {
      within = omega arith;
      is = sym (spelt-step _ _ c.loop-b.i c.loop-b.b-index (omega arith) (omega arith) c.if-line-i-2.false)
          ∙ c.loop-b.invariant.is;
    }

pub returns : goal.returns
returns c = sym (spelt-whole _ _ c.loop-b.i c.loop-b.b-index (omega arith)) ∙ c.loop-b.invariant.is
