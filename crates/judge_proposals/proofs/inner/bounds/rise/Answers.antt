-- `inner::bounds::rise` meets its contract: what is left to compare decides.
use mathlib.Core.Path.{◌≡◌, refl, sym, ap, ap₂, ◌∙◌}
use mathlib.Core.List.{map}
use Prim.Native.Nat.{◌-◌}
use native.Mathlib.Omega.{arith}
use lib.ListN.{get_or}
use Rattle.rules.specs.WellFormed.{is_lt}
use Rattle.rules.specs.Writing.{word_of}
use Rattle.records.specs.Good.{numbers}
use Rattle.judge_proposals.proofs.Bounds.{nth, many, rise-no, rise-on, rise-end}
use Rattle.judge_proposals.proofs.inner.bounds.rise.Goals as goal

pub loop-i-init : goal.loop-i-init
loop-i-init c = λ os h. refl

pub returns-then-not-is_less : goal.returns-then-not-is_less
returns-then-not-is_less c = λ os h.
    let a = nth c.args.names.pool.now c.args.names.table.now c.args.s.now os h (c.loop-i.i - 1) (omega (arith, c.loop-i-test.true)) in
    let b = nth c.args.names.pool.now c.args.names.table.now c.args.s.now os h c.loop-i.i c.loop-i-test.true in
    let z = many c.args.names.pool.now c.args.names.table.now c.args.s.now os h in
    let e : c.is_less.result ≡ is_lt ((numbers c.args.names.pool.now c.args.names.table.now).order (get_or (map word_of os) (c.loop-i.i - 1) 0)
    (get_or (map word_of os) c.loop-i.i 0)) =
    c.is_less.ensures ∙ ap is_lt (c.order.ensures
    ∙ ap₂ (numbers c.args.names.pool.now c.args.names.table.now).order (c.name_of.ensures a.bound a.held ∙ a.is)
    (c.name_of-in-loop-i.ensures b.bound b.held ∙ b.is)) in
    sym (c.loop-i.invariant os h ∙ rise-no _ (map word_of os) c.loop-i.i c.loop-i.auto.i (omega (arith, z, c.loop-i-test.true)) (sym e ∙ c.if-not-is_less.true))

pub loop-i-preserved : goal.loop-i-preserved
loop-i-preserved c = λ os h.
    let a = nth c.args.names.pool.now c.args.names.table.now c.args.s.now os h (c.loop-i.i - 1) (omega (arith, c.loop-i-test.true)) in
    let b = nth c.args.names.pool.now c.args.names.table.now c.args.s.now os h c.loop-i.i c.loop-i-test.true in
    let z = many c.args.names.pool.now c.args.names.table.now c.args.s.now os h in
    let e : c.is_less.result ≡ is_lt ((numbers c.args.names.pool.now c.args.names.table.now).order (get_or (map word_of os) (c.loop-i.i - 1) 0)
    (get_or (map word_of os) c.loop-i.i 0)) =
    c.is_less.ensures ∙ ap is_lt (c.order.ensures
    ∙ ap₂ (numbers c.args.names.pool.now c.args.names.table.now).order (c.name_of.ensures a.bound a.held ∙ a.is)
    (c.name_of-in-loop-i.ensures b.bound b.held ∙ b.is)) in
    c.loop-i.invariant os h ∙ rise-on _ (map word_of os) c.loop-i.i c.loop-i.auto.i (omega (arith, z, c.loop-i-test.true)) (sym e ∙ c.if-not-is_less.false)

pub returns : goal.returns
returns c = λ os h.
    let z = many c.args.names.pool.now c.args.names.table.now c.args.s.now os h in
    sym (c.loop-i.invariant os h ∙ rise-end _ (map word_of os) c.loop-i.i c.loop-i.auto.i (omega (arith, z, c.loop-i-test.false)))
