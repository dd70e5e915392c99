-- `confirm` meets its contract: what is handed over is the definition's, and what was denied never leaves the call's own array.
use mathlib.Core.Bool.{not}
use mathlib.Core.Path.{◌≡◌, ap}
use native.Mathlib.Omega.{arith}
use Rattle.std.proofs.Common.{rules}
use Rattle.std.specs.Prelude.{is_none, length}
use Rattle.records_buffers.proofs.OnLent.{Long, long, short}
use Rattle.rules.specs.Names.{table_of}
use Rattle.rules.specs.Refusals.{toldBy}
use Rattle.solve_confirm.proofs.Handed.{told, small, put-over, call-short, called, answered-over, judged-over}
use Rattle.solve_confirm.proofs.confirm.Goals as goal

pub returns-then-not-lent : goal.returns-then-not-lent
returns-then-not-lent c =
    call-short _ _ _ _ _ _ c.stopped.ensures (short _ _ _ _ c.lent.result c.lent.ensures (ap not c.if-not-lent.true))

pub solve_and_judge-requires-clause-room : goal.solve_and_judge-requires-clause-room
solve_and_judge-requires-clause-room c =
    let enough : Long c.args.pool.now c.args.table.now c.args.res.now c.args.work.now =
    long _ _ _ _ c.lent.result c.lent.ensures (ap not c.if-not-lent.false) in
    enough.work-long

pub records-requires : goal.records-requires
records-requires c =
    let enough : Long c.args.pool.now c.args.table.now c.args.res.now c.args.work.now =
    long _ _ _ _ c.lent.result c.lent.ensures (ap not c.if-not-lent.false) in
    let n = c.new-names.ensures in
    let answered = answered-over _ _ _ enough.table-met _ n.answer n.same _ _ _ c.solve_and_judge.ensures.answered in
    let judged = judged-over _ _ _ enough.table-met _ n.answer n.same _ c.solve_and_judge.ensures.judged in
    let k : length c.solve_and_judge.new.res ≡ 8192 = search rules in
    small (table_of c.args.pool.now c.args.table.now) c.args.set.now _ _ (toldBy is_none c.solve_and_judge.result.verdict) _ _ answered judged
    c.ruled-solution.ensures k

pub copy-requires-clause-within : goal.copy-requires-clause-within
copy-requires-clause-within c =
    let enough : Long c.args.pool.now c.args.table.now c.args.res.now c.args.work.now =
    long _ _ _ _ c.lent.result c.lent.ensures (ap not c.if-not-lent.false) in
    let n = c.new-names.ensures in
    let answered = answered-over _ _ _ enough.table-met _ n.answer n.same _ _ _ c.solve_and_judge.ensures.answered in
    let judged = judged-over _ _ _ enough.table-met _ n.answer n.same _ c.solve_and_judge.ensures.judged in
    let k : length c.solve_and_judge.new.res ≡ 8192 = search rules in
    let s = small (table_of c.args.pool.now c.args.table.now) c.args.set.now _ _ (toldBy is_none c.solve_and_judge.result.verdict) _ _ answered judged
    c.ruled-solution.ensures k in
    omega (arith, c.records.ensures, s, k)

pub copy-requires-clause-near : goal.copy-requires-clause-near
copy-requires-clause-near c =
    let enough : Long c.args.pool.now c.args.table.now c.args.res.now c.args.work.now =
    long _ _ _ _ c.lent.result c.lent.ensures (ap not c.if-not-lent.false) in
    let n = c.new-names.ensures in
    let answered = answered-over _ _ _ enough.table-met _ n.answer n.same _ _ _ c.solve_and_judge.ensures.answered in
    let judged = judged-over _ _ _ enough.table-met _ n.answer n.same _ c.solve_and_judge.ensures.judged in
    let k : length c.solve_and_judge.new.res ≡ 8192 = search rules in
    let s = small (table_of c.args.pool.now c.args.table.now) c.args.set.now _ _ (toldBy is_none c.solve_and_judge.result.verdict) _ _ answered judged
    c.ruled-solution.ensures k in
    omega (arith, c.records.ensures, s)

pub returns : goal.returns
returns c =
    let enough : Long c.args.pool.now c.args.table.now c.args.res.now c.args.work.now =
    long _ _ _ _ c.lent.result c.lent.ensures (ap not c.if-not-lent.false) in
    let n = c.new-names.ensures in
    let answered = answered-over _ _ _ enough.table-met _ n.answer n.same _ _ _ c.solve_and_judge.ensures.answered in
    let judged = judged-over _ _ _ enough.table-met _ n.answer n.same _ c.solve_and_judge.ensures.judged in
    let k : length c.solve_and_judge.new.res ≡ 8192 = search rules in
    let t = table_of c.args.pool.now c.args.table.now in
    let v = toldBy is_none c.solve_and_judge.result.verdict in
    called _ _ _ _ _ c.ruled-solution.result c.solve_and_judge.new.work _ _ c.solve_and_judge.auto.work enough.met
    (told t c.args.set.now _ _ v _ _ answered judged c.ruled-solution.ensures)
    (put-over t c.args.set.now _ _ v _ _ answered judged c.ruled-solution.ensures c.records.result _ _ c.records.ensures k enough.result-long
    c.copy.ensures)
    c.clear.ensures
