-- The invariant: the names written, then those that are left.
use native.Mathlib.Omega.{arith}
use Rattle.queries.proofs.SortMarks.{sorting_start, sorting-end, sorting-less, sorting-few, sorting_step}
use Rattle.queries.proofs.name_set.NameSet.write_sorted.Goals as goal

pub loop-x-init : goal.loop-x-init
loop-x-init c = sorting_start c.args.names.good c.args.self.marks c.args.out.now c.requires.held

pub first-requires : goal.first-requires
first-requires c = c.loop-x.invariant.held

pub shape_of-out : goal.shape_of-out
shape_of-out c = c.loop-x.invariant.same

pub returns : goal.returns
returns c = sorting-end c.args.names.good _ _ _ _ _ c.requires.held.long c.loop-x.invariant (rw c.in_default.is at c.first.ensures)

pub bounds-left-x : goal.bounds-left-x
bounds-left-x c = let l = (rw c.in-Some.is at c.first.ensures) in l.0

pub overflow_add-k : goal.overflow_add-k
overflow_add-k c =
    let few = sorting-few c.args.names.good _ _ _ _ _ c.requires.held.long c.loop-x.invariant _ (rw c.in-Some.is at c.first.ensures) in
    omega (arith, few)

pub loop-x-smaller : goal.loop-x-smaller
loop-x-smaller c = sorting-less c.args.names.good _ _ _ _ _ c.requires.held.long c.loop-x.invariant _ (rw c.in-Some.is at c.first.ensures)

pub loop-x-preserved : goal.loop-x-preserved
loop-x-preserved c =
    let first = (rw c.in-Some.is at c.first.ensures) in
    rw c.put.ensures (sorting_step c.args.names.good _ _ _ _ _ c.requires.held.long c.loop-x.invariant _ first c.requires.room)
