-- `inner::squeeze` meets its contract.
use native.Mathlib.Omega.{arith}
use mathlib.Core.Path.{refl, ◌∙◌}
use Prim.Native.Nat.{◌+◌}
use Rattle.laws.proofs.NameTable.{good-laid}
use Rattle.compaction.proofs.Moves.{doing-first, doing-skip, doing-keep, doing-last, end_is, pool-long, table-long, rises, within, from-within, copied, wiped}
use Rattle.compaction.proofs.inner.squeeze.Goals as goal

pub bounds-table-0 : goal.bounds-table-0
bounds-table-0 c = omega (arith, c.requires.words)

pub loop-i-init : goal.loop-i-init
loop-i-init c = doing-first c.requires

pub offset_bounds-table-i : goal.offset_bounds-table-i
offset_bounds-table-i c = omega (arith, (good-laid c.requires).few)

pub bounds-table-i : goal.bounds-table-i
bounds-table-i c = omega (arith, (good-laid c.requires).few, c.requires.words, table-long c.requires c.loop-i.invariant)

pub bounds-m-i : goal.bounds-m-i
bounds-m-i c = omega (arith, (good-laid c.requires).few)

pub loop-i-preserved-then-not-m-i : goal.loop-i-preserved-then-not-m-i
loop-i-preserved-then-not-m-i c =
    let g = c.requires in
    let d = c.loop-i.invariant in
    let more = c.loop-i-test.true in
    let E = end_is g d in
    rw E (doing-skip g d more c.if-not-m-i.true)

pub copy_within-requires-clause-start_le_end : goal.copy_within-requires-clause-start_le_end
copy_within-requires-clause-start_le_end c =
    let g = c.requires in
    let d = c.loop-i.invariant in
    let more = c.loop-i-test.true in
    omega (arith, end_is g d, rises g d more)

pub copy_within-requires-clause-in_bounds : goal.copy_within-requires-clause-in_bounds
copy_within-requires-clause-in_bounds c =
    let g = c.requires in
    let d = c.loop-i.invariant in
    omega (arith, end_is g d, within g d c.loop-i-test.true, pool-long g d, g.bytes)

pub copy_within-requires-clause-dest_in_bounds : goal.copy_within-requires-clause-dest_in_bounds
copy_within-requires-clause-dest_in_bounds c =
    let g = c.requires in
    let d = c.loop-i.invariant in
    let more = c.loop-i-test.true in
    omega (arith, end_is g d, d.behind, rises g d more, within g d more, pool-long g d, g.bytes)

pub overflow_sub-out : goal.overflow_sub-out
overflow_sub-out c =
    let g = c.requires in
    let d = c.loop-i.invariant in
    let more = c.loop-i-test.true in
    let E = end_is g d in
    omega (arith, E, rises g d more)

pub overflow_add-out : goal.overflow_add-out
overflow_add-out c =
    let g = c.requires in
    let d = c.loop-i.invariant in
    let more = c.loop-i-test.true in
    let E = end_is g d in
    omega (arith, E, rises g d more, within g d more, d.behind)

pub overflow_add-k : goal.overflow_add-k
overflow_add-k c =
    let g = c.requires in
    let d = c.loop-i.invariant in
    omega (arith, d.few, d.inside, (good-laid g).few)

pub overflow_cast-table : goal.overflow_cast-table
overflow_cast-table c =
    let g = c.requires in
    let d = c.loop-i.invariant in
    let more = c.loop-i-test.true in
    let E = end_is g d in
    omega (arith, E, rises g d more, within g d more, d.behind)

pub offset_bounds-table-k : goal.offset_bounds-table-k
offset_bounds-table-k c =
    let g = c.requires in
    let d = c.loop-i.invariant in
    omega (arith, d.few, d.inside, (good-laid g).few)

pub bounds-table-k : goal.bounds-table-k
bounds-table-k c =
    let g = c.requires in
    let d = c.loop-i.invariant in
    let more = c.loop-i-test.true in
    omega (arith, d.few, more, (good-laid g).few, g.words, table-long g d)

pub loop-i-preserved : goal.loop-i-preserved
loop-i-preserved c =
    let g = c.requires in
    let d = c.loop-i.invariant in
    let more = c.loop-i-test.true in
    let E = end_is g d in
    let l = c.loop-i in
    let moved = copied l.pool l.from _ l.out (omega (arith, E, rises g d more)) (omega (arith, E, within g d more, pool-long g d, g.bytes)) d.behind in
    rw E (doing-keep g d more c.if-not-m-i.false (rw E at (c.copy_within.ensures.after ∙ moved)) refl)

pub slice_bounds-fill-end : goal.slice_bounds-fill-end
slice_bounds-fill-end c =
    let g = c.requires in
    let d = c.loop-i.invariant in
    omega (arith, from-within g d, pool-long g d, g.bytes)

pub slice_bounds-fill-end-2 : goal.slice_bounds-fill-end-2
slice_bounds-fill-end-2 c =
    let g = c.requires in
    let d = c.loop-i.invariant in
    omega (arith, (good-laid g).few, table-long g d, g.words)

pub returns : goal.returns
returns c =
    let g = c.requires in
    let d = c.loop-i.invariant in
    let l = c.loop-i in
    doing-last g d c.loop-i-test.false
    (wiped l.pool _ l.out _ (omega (arith, from-within g d, pool-long g d, g.bytes, d.behind)) (c.fill.ensures.after (λ y e. e)))
    (wiped l.table _ (l.k + 1) _ (omega (arith, (good-laid g).few, table-long g d, g.words)) (c.fill-2.ensures.after (λ y e. e))) refl
