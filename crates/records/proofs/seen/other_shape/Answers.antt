-- `other_shape` meets its contract: by the kind.
use mathlib.Core.Path.{ap, ◌∙◌}
use mathlib.Core.List.{[], ◌∷◌}
use Rattle.records.specs.Views.{plain}
use Rattle.std.proofs.Common.{arith, ne_eqb}
use Rattle.records.proofs.seen.other_shape.Goals as goal

pub returns-in-9 : goal.returns-in-9
returns-in-9 c = simp c.in-9.is c.plain_two.ensures

pub returns-in-11 : goal.returns-in-11
returns-in-11 c = simp c.in-11.is

pub returns-in-12 : goal.returns-in-12
returns-in-12 c = simp c.in-12.is

pub returns-in-13 : goal.returns-in-13
returns-in-13 c = simp c.in-13.is

pub returns-in-15 : goal.returns-in-15
returns-in-15 c = simp c.in-15.is

pub returns-in-20 : goal.returns-in-20
returns-in-20 c = simp c.in-20.is c.plain_three.ensures

pub returns-in-21 : goal.returns-in-21
returns-in-21 c = simp c.in-21.is c.plain_three-in-21.ensures

pub returns-in-22 : goal.returns-in-22
returns-in-22 c = simp c.in-22.is c.plain_three-in-22.ensures

pub returns-in-23 : goal.returns-in-23
returns-in-23 c = simp c.in-23.is c.plain_two-in-23.ensures

pub returns-in-24 : goal.returns-in-24
returns-in-24 c = simp c.in-24.is c.plain_two-in-24.ensures

pub returns-in-25 : goal.returns-in-25
returns-in-25 c = simp c.in-25.is c.bound_shape.ensures

pub returns-in-26 : goal.returns-in-26
returns-in-26 c = simp c.in-26.is (c.plain_one.ensures ∙ ap (plain (c.args.c ∷ [])) c.scheme_shape.ensures)

pub returns-in_default : goal.returns-in_default
returns-in_default c =
    let k = c.args.kind in
    simp (
      ne_eqb k 9 (omega arith),
      ne_eqb k 11 (omega arith),
      ne_eqb k 12 (omega arith),
      ne_eqb k 13 (omega arith),
      ne_eqb k 15 (omega arith),
      ne_eqb k 20 (omega arith),
      ne_eqb k 21 (omega arith),
      ne_eqb k 22 (omega arith),
      ne_eqb k 23 (omega arith),
      ne_eqb k 24 (omega arith),
      ne_eqb k 25 (omega arith),
      ne_eqb k 26 (omega arith),
    )
