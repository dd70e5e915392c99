-- `inner::number_of` meets its contract.
use native.Mathlib.Omega.{arith}
use mathlib.Core.Path.{◌≡◌, sym, ap, ap₂, ◌∙◌}
use Prim.Native.Nat.{◌+◌}
use Rattle.rules.specs.Compaction.{newNumber}
use Rattle.compaction.specs.Told.{marks}
use Rattle.laws.proofs.Numbers.{yes_at_most, yes_counts}
use Rattle.compaction.proofs.Marks.{number-next, number_past, number-none}
use Rattle.compaction.proofs.inner.number_of.Goals as goal

pub loop-i-init : goal.loop-i-init
loop-i-init c = (number-none _, omega arith)

pub returns-then-i-ge-NAMES : goal.returns-then-i-ge-NAMES
returns-then-i-ge-NAMES c = let l = c.loop-i in l.invariant.0
    ∙ number_past c.args.m.now l.i c.args.a (omega (arith, c.if-i-ge-NAMES.true, c.requires)) (omega (arith, c.loop-i-test.true))

pub overflow_add-k : goal.overflow_add-k
overflow_add-k c = omega (arith, c.loop-i.invariant.1, yes_at_most _ c.from-k.ensures)

pub loop-i-preserved : goal.loop-i-preserved
loop-i-preserved c = let l = c.loop-i in (
  ap₂ ◌+◌ l.invariant.0 (yes_counts _ c.from-k.ensures)
      ∙ sym (number-next _ l.i),
  omega (arith, l.invariant.1, yes_at_most _ c.from-k.ensures),
)

pub returns : goal.returns
returns c = let l = c.loop-i in let e : l.i ≡ c.args.a = omega (arith, c.loop-i-test.false) in l.invariant.0
    ∙ ap (newNumber (marks c.args.m.now)) e
