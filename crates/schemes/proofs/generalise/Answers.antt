-- `generalise` meets its contract.
use mathlib.Core.Path.{ap, ◌∙◌}
use mathlib.Core.Bool.{not}
use Rattle.std.proofs.Common.{sym}
use Rattle.rules.specs.Calls.{generaliseCall}
use Rattle.records_buffers.proofs.Handed.{unwritten, made-as}
use Rattle.records_buffers.proofs.OnLent.{Long, long, short}
use Rattle.schemes.proofs.Generalising.{generalise-row}
use Rattle.schemes.proofs.Called.{over_tested, called}
use Rattle.schemes.proofs.generalise.Goals as goal

pub returns-then-not-lent : goal.returns-then-not-lent
unfolding generaliseCall
returns-then-not-lent c = unwritten _ _ _ _ (short _ _ _ _ c.lent.result c.lent.ensures (ap not c.if-not-lent.true))

pub make_generalised-made-requires : goal.make_generalised-made-requires
make_generalised-made-requires c = let enough : Long c.args.pool.now c.args.table.now c.args.res.now c.args.work.now =
    long _ _ _ _ c.lent.result c.lent.ensures (ap not c.if-not-lent.false) in
    enough.work-long

pub hand_over-requires : goal.hand_over-requires
hand_over-requires c = let enough : Long c.args.pool.now c.args.table.now c.args.res.now c.args.work.now =
    long _ _ _ _ c.lent.result c.lent.ensures (ap not c.if-not-lent.false) in
    record { made = (_, c.make_generalised-made.ensures); room = enough.result-long }

pub returns : goal.returns
unfolding generaliseCall
returns c =
    let a = c.args in
    let enough : Long a.pool.now a.table.now a.res.now a.work.now = long _ _ _ _ c.lent.result c.lent.ensures (ap not c.if-not-lent.false) in
    let over = over_tested _ _ _ (λ t. (generalise-row t a.given.now a.bounds.now).is) a.pool.now
    a.table.now enough.table-met _ c.new-tested.ensures.answer c.new-tested.ensures.same in
    c.hand_over.ensures _ (made-as (sym over) c.make_generalised-made.ensures)
    ∙ called _ _ _ c.make_generalised-made.new.work c.make_generalised-made.auto.work enough.met
