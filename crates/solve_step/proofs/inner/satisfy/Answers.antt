use Rattle.std.proofs.Common.{arith, ap, sym}
use Rattle.rules.specs.Base.{bounded}
use Rattle.rules.specs.Names.{names_of, table_of}
use Rattle.rules.specs.Rounds.{trySatisfy}
use Rattle.solve_step.proofs.Conditions.{left-good, right-good, powers-good}
use Rattle.solve_step.proofs.Sizes.{equal-size, scalar-size, field-size}
use Rattle.solve_step.proofs.Written.{applied-as}
use Rattle.records.specs.Good.{numbers}
use Rattle.solve_step.proofs.inner.satisfy.Goals as goal

pub equal-requires-clause-left_good : goal.equal-requires-clause-left_good
equal-requires-clause-left_good c = left-good c.args.names.pool.now c.args.names.table.now _ _ c.in-Equal.ensures c.requires.good

pub equal-requires-clause-right_good : goal.equal-requires-clause-right_good
equal-requires-clause-right_good c = right-good c.args.names.pool.now c.args.names.table.now _ _ c.in-Equal.ensures c.requires.good

pub equal_scalar-requires-clause-powers_good : goal.equal_scalar-requires-clause-powers_good
equal_scalar-requires-clause-powers_good c = powers-good c.args.names.pool.now c.args.names.table.now _ c.in-IsScalar.ensures c.requires.good

pub returns-in-IsDimension : goal.returns-in-IsDimension
unfolding trySatisfy
returns-in-IsDimension c = applied-as (ap (trySatisfy (numbers c.args.names.pool.now c.args.names.table.now) bounded) (sym c.in-IsDimension.ensures))
    c.is_dimension.ensures

pub returns-in-HasField : goal.returns-in-HasField
unfolding trySatisfy
returns-in-HasField c =
    let names = names_of (table_of c.args.names.pool.now c.args.names.table.now) in
    applied-as (ap (trySatisfy (numbers c.args.names.pool.now c.args.names.table.now) bounded) (sym c.in-HasField.ensures)) (c.has_field.ensures names)

pub equal-requires-clause-short : goal.equal-requires-clause-short
equal-requires-clause-short c = omega (arith, c.requires.short, equal-size _ _ _ c.in-Equal.ensures)

pub equal_scalar-requires-clause-short : goal.equal_scalar-requires-clause-short
equal_scalar-requires-clause-short c = omega (arith, c.requires.short, scalar-size _ _ c.in-IsScalar.ensures)

pub has_field-requires : goal.has_field-requires
has_field-requires c = omega (arith, c.requires.short, field-size _ _ _ _ c.in-HasField.ensures)
