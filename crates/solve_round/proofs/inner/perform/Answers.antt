use Rattle.std.specs.Prelude.{[]}
use Rattle.std.proofs.Common.{ap, arith}
use Rattle.solve_round.specs.Parts.{after}
use Rattle.solve_round.proofs.Limits.{sound-none}
use Rattle.solve_round.proofs.Performing.{took-bind, took-split, done-is, none-first, binds-same}
use Rattle.solve_round.proofs.Written.{next-as}
use Rattle.solve_round.proofs.inner.perform.Goals as goal

pub invariant_of-bindings : goal.invariant_of-bindings
invariant_of-bindings c =
    let (k, t) = c.requires.taken in
    record { near = c.requires.new_near; trees = (_, (took-bind _ _ _ _ _ k t c.requires.new_room c.in-Bind.is).there) }

pub bind-requires-clause-bound : goal.bind-requires-clause-bound
bind-requires-clause-bound c =
    let (k, t) = c.requires.taken in
    let b = took-bind _ _ _ _ _ k t c.requires.new_room c.in-Bind.is in
    (b.name, b.type, record { is = binds-same _ _ _ _ b.there _ (search); good = b.good; deep = b.deep; short = omega (arith, b.fits) })

pub returns-in-Bind : goal.returns-in-Bind
returns-in-Bind c = λ k t.
    let b = took-bind _ _ _ _ _ k t c.requires.new_room c.in-Bind.is in
    next-as (ap (after c.args.names.pool.now c.args.names.table.now c.args.rest) b.is)
    (c.bind.ensures b.name b.type (record
    { is = binds-same _ _ _ _ b.there _ (search); good = b.good; deep = b.deep; short = omega (arith, b.fits) }))

pub append_first-requires-clause-first : goal.append_first-requires-clause-first
append_first-requires-clause-first c =
    let (k, t) = c.requires.taken in
    let b = took-split _ _ _ _ _ k t c.requires.new_room c.in-Split.is in
    (b.cons, b.first)

pub returns-in-Split : goal.returns-in-Split
returns-in-Split c = λ k t.
    let b = took-split _ _ _ _ _ k t c.requires.new_room c.in-Split.is in
    next-as (ap (after c.args.names.pool.now c.args.names.table.now c.args.rest) b.is)
    (c.append_first.ensures c.args.names.pool.now c.args.names.table.now b.cons b.first t.sound b.sound)

pub append_first-requires-in-Done-clause-first : goal.append_first-requires-in-Done-clause-first
append_first-requires-in-Done-clause-first c = ([], none-first _)

pub returns-in-Done : goal.returns-in-Done
returns-in-Done c = λ k t.
    next-as (ap (after c.args.names.pool.now c.args.names.table.now c.args.rest) (done-is t.stepped c.in-Done.is))
    (c.append_first-in-Done.ensures c.args.names.pool.now c.args.names.table.now [] (none-first _) t.sound
    (sound-none c.args.names.pool.now c.args.names.table.now))
