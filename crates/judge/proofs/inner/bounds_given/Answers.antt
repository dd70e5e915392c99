-- `inner::bounds_given` meets its contract.
use mathlib.Core.Path.{sym, subst, ◌∙◌}
use mathlib.Core.List.{map}
use Prim.Native.Nat.{◌/◌}
use lib.ListN.{length}
use Rattle.rules.specs.Writing.{word_of}
use Rattle.records.specs.Good.{Chained, GoodBound}
use Rattle.judge.proofs.Entry.{not-whole, not_good, not-rising, are-rising}
use Rattle.judge.proofs.inner.bounds_given.Goals as goal

pub returns-then-bounds-ne0 : goal.returns-then-bounds-ne0
returns-then-bounds-ne0 c = not-whole c.args.names.pool.now c.args.names.table.now c.args.bounds.now c.bounds_good-good.result
    c.bounds_good-good.ensures c.if-bounds-ne0.true

pub returns-then-not-good : goal.returns-then-not-good
returns-then-not-good c = not_good c.args.names.pool.now c.args.names.table.now c.args.bounds.now c.if-bounds-ne0.false
    (subst (Chained (GoodBound c.args.names.pool.now c.args.names.table.now 0 c.args.bounds.now) (length c.args.bounds.now / 4) 0)
    (c.if-not-good.true) c.bounds_good-good.ensures)

pub rise-requires : goal.rise-requires
rise-requires c = subst (Chained (GoodBound c.args.names.pool.now c.args.names.table.now 0 c.args.bounds.now) (length c.args.bounds.now / 4) 0)
    (c.if-not-good.false) c.bounds_good-good.ensures

pub returns-then-not-rise : goal.returns-then-not-rise
returns-then-not-rise c =
    let (os, h) = subst (Chained (GoodBound c.args.names.pool.now c.args.names.table.now 0 c.args.bounds.now) (length c.args.bounds.now / 4) 0)
    (c.if-not-good.false) c.bounds_good-good.ensures in
    not-rising c.args.names.pool.now c.args.names.table.now c.args.bounds.now c.if-bounds-ne0.false os h (sym (c.rise.ensures os h) ∙ c.if-not-rise.true)

pub returns : goal.returns
returns c =
    let (os, h) = subst (Chained (GoodBound c.args.names.pool.now c.args.names.table.now 0 c.args.bounds.now) (length c.args.bounds.now / 4) 0)
    (c.if-not-good.false) c.bounds_good-good.ensures in (
      map word_of os,
      (
        are-rising c.args.names.pool.now c.args.names.table.now c.args.bounds.now c.if-bounds-ne0.false os h
            (sym (c.rise.ensures os h) ∙ c.if-not-rise.false),
        c.bound_names.ensures _ _ os h,
      ),
    )
