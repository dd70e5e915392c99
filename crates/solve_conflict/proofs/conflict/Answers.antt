-- `conflict` meets its contract.
use mathlib.Core.Bool.{not}
use Rattle.std.proofs.Common.{ap}
use Rattle.records_buffers.proofs.OnLent.{Long, long, short}
use Rattle.solve_conflict.proofs.Entering.{call-short, called, found-over}
use Rattle.solve_conflict.proofs.conflict.Goals as goal

pub returns-then-not-lent : goal.returns-then-not-lent
returns-then-not-lent c = call-short _ _ _ _ _ (short _ _ _ _ c.lent.result c.lent.ensures (ap not c.if-not-lent.true))

pub find_among-found-requires-clause-result_room : goal.find_among-found-requires-clause-result_room
find_among-found-requires-clause-result_room c =
    let enough : Long c.args.pool.now c.args.table.now c.args.res.now c.args.work.now =
    long _ _ _ _ c.lent.result c.lent.ensures (ap not c.if-not-lent.false) in
    enough.result-long

pub find_among-found-requires-clause-room : goal.find_among-found-requires-clause-room
find_among-found-requires-clause-room c =
    let enough : Long c.args.pool.now c.args.table.now c.args.res.now c.args.work.now =
    long _ _ _ _ c.lent.result c.lent.ensures (ap not c.if-not-lent.false) in
    enough.work-long

pub returns : goal.returns
returns c =
    let enough : Long c.args.pool.now c.args.table.now c.args.res.now c.args.work.now =
    long _ _ _ _ c.lent.result c.lent.ensures (ap not c.if-not-lent.false) in
    called _ _ _ _ _ c.find_among-found.new.work _ _ _ c.find_among-found.auto.work enough.met
    (found-over _ _ _ _ enough.table-met c.new.ensures.answer c.new.ensures.same _ _ _ c.find_among-found.ensures) c.clear.ensures
