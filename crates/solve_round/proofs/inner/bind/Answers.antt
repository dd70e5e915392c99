use Rattle.solve_round.proofs.Rebinding.{listed, lent, same-look}
use Rattle.solve_round.proofs.inner.bind.Goals as goal

pub fill-requires-clause-run : goal.fill-requires-clause-run
fill-requires-clause-run c = let (x, t, h) = c.requires.bound in (_, (listed c.args.names.pool.now c.args.names.table.now h).run)

pub invariant_of-by : goal.invariant_of-by
invariant_of-by c = let (x, t, h) = c.requires.bound
    in record { lent = (_, lent c.args.names.pool.now c.args.names.table.now h c.fill.ensures c.args.names.good) }

pub rebind-requires-clause-bound : goal.rebind-requires-clause-bound
rebind-requires-clause-bound c =
    let (x, t, h) = c.requires.bound in
    (x, t, h, same-look c.args.names.pool.now c.args.names.table.now h c.fill.ensures c.args.names.good (search))

pub returns : goal.returns
returns c = λ x t h. c.rebind.ensures x t h (same-look c.args.names.pool.now c.args.names.table.now h c.fill.ensures c.args.names.good (search))
