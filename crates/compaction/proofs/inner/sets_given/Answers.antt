-- `inner::sets_given` meets its contract.
use native.Mathlib.Omega.{arith}
use mathlib.Core.Path.{refl, ap}
use mathlib.Core.Bool.{not}
use lib.ListN.{get_or}
use Rattle.compaction.proofs.Checks.{left-short, left-bad, left-next, left_end, whole-records}
use Rattle.compaction.proofs.inner.sets_given.Goals as goal

pub loop-n-init : goal.loop-n-init
loop-n-init c = (omega arith, refl)

pub returns-then-sets-from : goal.returns-then-sets-from
returns-then-sets-from c = left-short _ _ _ c.loop-n.n-index c.loop-n.from c.loop-n-test.true c.loop-n.invariant.1 c.if-sets-from.true

pub overflow_add-to : goal.overflow_add-to
overflow_add-to c = omega (arith, c.if-sets-from.false, c.loop-n.invariant.0)

pub set_given-requires : goal.set_given-requires
set_given-requires c = whole-records c.args.sets.now c.loop-n.from (get_or c.args.lengths.now c.loop-n.n-index 0) c.if-sets-from.false

pub returns-then-not-set_given : goal.returns-then-not-set_given
returns-then-not-set_given c = let l = c.loop-n in
    left-bad _ _ _ l.n-index l.from c.loop-n-test.true l.invariant.1 c.set_given.result c.set_given.ensures (ap not c.if-not-set_given.true)

pub loop-n-preserved : goal.loop-n-preserved
loop-n-preserved c = let l = c.loop-n in (
  omega (arith, c.if-sets-from.false, l.invariant.0),
  left-next _ _ _ l.n-index l.from c.loop-n-test.true l.invariant.1 c.set_given.result c.set_given.ensures (ap not c.if-not-set_given.false)
      c.if-sets-from.false,
)

pub returns : goal.returns
returns c = let l = c.loop-n in left_end _ _ _ l.n-index l.from c.loop-n-test.false l.invariant.0 l.invariant.1
