use mathlib.Core.Path.{◌≡◌, sym, subst}
use native.Mathlib.Omega.{arith}
use mathlib.Core.List.{append-nil}
use Prim.Native.Nat.{ℕ}
use Rattle.rules.specs.Names.{numbered}
use Rattle.rules.specs.Replacing.{find}
use Rattle.replace.specs.Places.{SaysAt}
use Rattle.queries.specs.Marks.{Has}
use Rattle.queries.proofs.ScanLaws.{choose-none}
use Rattle.judge_proposals.specs.Mixed.{opensBelow}
use Rattle.judge_proposals.proofs.Mixed.{below_on}
use Rattle.judge_proposals.proofs.inner.mixed.add_table.Goals as goal

pub loop-x-init : goal.loop-x-init
unfolding opensBelow
loop-x-init c = λ bs names xs h m. rw (choose-none _, append-nil) m

pub add_bound-requires : goal.add_bound-requires
add_bound-requires c =
    let (bs, (names, h)) = c.requires in
    let look = find (numbered names) bs c.loop-x.x in
    (look, subst (λ (w : ℕ). SaysAt c.args.types.now w look) (sym c.word_at.ensures) (h.says c.loop-x.x c.loop-x-test.true))

pub loop-x-preserved : goal.loop-x-preserved
loop-x-preserved c = λ bs names xs h m.
    let look = find (numbered names) bs c.loop-x.x in
    let says = subst (λ (w : ℕ). SaysAt c.args.types.now w look) (sym c.word_at.ensures) (h.says c.loop-x.x c.loop-x-test.true) in
    subst (Has _) (below_on c.args.k names bs xs c.loop-x.x) (c.add_bound.ensures look _ says (c.loop-x.invariant bs names xs h m))

pub returns : goal.returns
returns c = λ bs names xs h m.
    let e : c.loop-x.x ≡ 256 = omega (arith, c.loop-x.auto.x-end, c.loop-x-test.false) in
    rw e at (c.loop-x.invariant bs names xs h m)
