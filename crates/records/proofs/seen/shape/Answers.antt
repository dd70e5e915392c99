-- `shape` meets its contract: by the kind.
use Rattle.std.proofs.Common.{arith, ne_eqb}
use Rattle.records.specs.Views.{view_of}
use Rattle.records.proofs.seen.shape.Goals as goal

pub returns-in-1 : goal.returns-in-1
unfolding view_of
returns-in-1 c = simp c.in-1.is c.plain_two.ensures

pub returns-in-2 : goal.returns-in-2
unfolding view_of
returns-in-2 c = simp c.in-2.is c.plain_two-in-2.ensures

pub returns-in-14 : goal.returns-in-14
unfolding view_of
returns-in-14 c = simp c.in-14.is c.plain_two-in-14.ensures

pub returns-in-3 : goal.returns-in-3
unfolding view_of
returns-in-3 c = simp c.in-3.is c.plain_two-in-3.ensures

pub returns-in-4 : goal.returns-in-4
unfolding view_of
returns-in-4 c = simp c.in-4.is c.plain_three.ensures

pub returns-in-5 : goal.returns-in-5
unfolding view_of
returns-in-5 c = simp c.in-5.is c.plain_three-in-5.ensures

pub returns-in-6 : goal.returns-in-6
unfolding view_of
returns-in-6 c = simp c.in-6.is c.plain_three-in-6.ensures

pub returns-in-7 : goal.returns-in-7
unfolding view_of
returns-in-7 c = simp c.in-7.is c.plain_two-in-7.ensures

pub returns-in-8 : goal.returns-in-8
unfolding view_of
returns-in-8 c = simp c.in-8.is

pub returns-in-10 : goal.returns-in-10
unfolding view_of
returns-in-10 c = simp c.in-10.is c.plain_three-in-10.ensures

pub returns-in_default : goal.returns-in_default
unfolding view_of
returns-in_default c =
    let k = c.args.kind in
    simp (
      ne_eqb k 1 (omega arith),
      ne_eqb k 2 (omega arith),
      ne_eqb k 14 (omega arith),
      ne_eqb k 3 (omega arith),
      ne_eqb k 4 (omega arith),
      ne_eqb k 5 (omega arith),
      ne_eqb k 6 (omega arith),
      ne_eqb k 7 (omega arith),
      ne_eqb k 8 (omega arith),
      ne_eqb k 10 (omega arith),
    )
    c.other_shape.ensures
