-- `inner::put_places` meets its contract.
use Rattle.std.proofs.Common.{arith}
use Rattle.solve_conflict.proofs.Steps.{placing-init, placing-first, placing-not, placing-end}
use Rattle.solve_conflict.proofs.inner.put_places.Goals as goal

pub places-init : goal.places-init
places-init c = rw c.into_iter-c-iterator.ensures.into_iter_gives (placing-init _ _ c.args.set.trees.0 c.args.set.words.now c.args.set.at)

pub places-preserved-then-stands-here : goal.places-preserved-then-stands-here
places-preserved-then-stands-here c =
    let p = c.places.invariant in
    placing-first _ _ _ _ _ _ _ _ _ c.in-Some.ensures.steps p _ c.if-stands-here.true
    (omega (arith, p.counted, p.few, p.places, c.requires.few, c.requires.room)) c.put.ensures

pub places-preserved : goal.places-preserved
places-preserved c = placing-not _ _ _ _ _ _ _ _ _ c.in-Some.ensures.steps c.places.invariant c.if-stands-here.false

pub returns : goal.returns
returns c = placing-end _ _ _ _ _ _ _ c.in-None.ensures.steps.0 c.places.invariant
