-- `inner::judge_rest` meets its contract.
use mathlib.Core.Path.{◌∙◌}
use native.Mathlib.Omega.{arith}
use Rattle.rules.specs.Names.{table_of, names_of}
use Rattle.judge.proofs.Proposed.{put, tabled}
use Rattle.judge.proofs.Rest.{are-bound, no-entries, small, constraints-stand, no-bounds, both, not-both}
use Rattle.judge.proofs.inner.judge_rest.Goals as goal

pub returns-then-not-fill : goal.returns-then-not-fill
returns-then-not-fill c = λ cs es n h. no-entries c.args.names.pool.now c.args.names.table.now c.args.set.now c.args.proposal.types.now cs es n h
    c.requires.few_entries c.fill.ensures c.args.proposal.bounds.now (c.if-not-fill.true)

pub returns-in_default : goal.returns-in_default
returns-in_default c = λ cs es n h.
    let (bs, b) = are-bound _ _ _ _ cs es n h c.requires.few_entries c.fill.ensures (c.if-not-fill.false) in
    no-bounds c.args.names.pool.now c.args.names.table.now c.args.set.now c.args.proposal.types.now cs es n (record { word = λ i. (c.type_inv.set i).fits })
    c.args.proposal.bounds.now bs b.given c.in_default.ensures

pub apart-requires : goal.apart-requires
apart-requires c =
    let (cs, n) = c.requires.set_entered in
    let (es, h) = c.requires.entries_slotted in
    let (bs, b) = are-bound _ _ _ _ cs es n h c.requires.few_entries c.fill.ensures (c.if-not-fill.false) in (
      bs,
      (
        names_of (table_of c.args.names.pool.now c.args.names.table.now),
        tabled c.args.names.pool.now c.args.names.table.now c.args.proposal.types.now _ es bs b n.good n.types-short c.fill.auto.places,
      ),
    )

pub returns-then-not-apart : goal.returns-then-not-apart
returns-then-not-apart c = λ cs es n h.
    let (bs, b) = are-bound _ _ _ _ cs es n h c.requires.few_entries c.fill.ensures (c.if-not-fill.false) in
    let (xs, (r, m)) = c.in-Some.ensures in
    both c.args.names.pool.now c.args.names.table.now c.args.set.now c.args.proposal.types.now cs es n (record { word = λ i. (c.type_inv.set i).fits })
    c.args.proposal.bounds.now bs b.given xs r
    (c.apart.ensures bs (names_of (table_of c.args.names.pool.now c.args.names.table.now))
    (tabled c.args.names.pool.now c.args.names.table.now c.args.proposal.types.now _ es bs b n.good n.types-short c.fill.auto.places)
    (small c.args.names.pool.now c.args.names.table.now c.args.set.now c.args.proposal.types.now cs es n (record { word = λ i. (c.type_inv.set i).fits })
    bs b.good)) (c.if-not-apart.true)

pub try_all-requires : goal.try_all-requires
try_all-requires c =
    let (cs, n) = c.requires.set_entered in
    let (es, h) = c.requires.entries_slotted in
    let (bs, b) = are-bound _ _ _ _ cs es n h c.requires.few_entries c.fill.ensures (c.if-not-fill.false) in
    let (xs, (r, m)) = c.in-Some.ensures in
    record {
      constraints_stand = (
        cs,
        constraints-stand c.args.names.pool.now c.args.names.table.now c.args.set.now c.args.proposal.types.now cs es n
            (record { word = λ i. (c.type_inv.set i).fits }),
      );
      bindings_tabled = (bs, put c.args.names.pool.now c.args.names.table.now c.args.proposal.types.now _ es bs b n.good n.types-short c.fill.auto.places);
      bounds_marked = (xs, m);
      few_records = n.short;
      work_room = omega (arith, c.requires.work_room);
    }

pub returns : goal.returns
returns c = λ cs es n h.
    let (bs, b) = are-bound _ _ _ _ cs es n h c.requires.few_entries c.fill.ensures (c.if-not-fill.false) in
    let (xs, (r, m)) = c.in-Some.ensures in
    c.try_all.ensures cs bs xs (constraints-stand c.args.names.pool.now c.args.names.table.now c.args.set.now c.args.proposal.types.now cs es n
    (record { word = λ i. (c.type_inv.set i).fits }))
    (put c.args.names.pool.now c.args.names.table.now c.args.proposal.types.now _ es bs b n.good n.types-short c.fill.auto.places) m
    ∙ not-both c.args.names.pool.now c.args.names.table.now c.args.set.now c.args.proposal.types.now cs es n (record { word = λ i. (c.type_inv.set i).fits })
    c.args.proposal.bounds.now bs b.given xs r
    (c.apart.ensures bs (names_of (table_of c.args.names.pool.now c.args.names.table.now))
    (tabled c.args.names.pool.now c.args.names.table.now c.args.proposal.types.now _ es bs b n.good n.types-short c.fill.auto.places)
    (small c.args.names.pool.now c.args.names.table.now c.args.set.now c.args.proposal.types.now cs es n (record { word = λ i. (c.type_inv.set i).fits })
    bs b.good)) (c.if-not-apart.false)
