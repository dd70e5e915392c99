-- `read_text` meets its contract, by what its parts did.
use native.Mathlib.Omega.{arith}
use Rattle.records_buffers.proofs.OnLent.{Long}
use Rattle.records_buffers.proofs.OnLent as lent
use Rattle.text.proofs.ReadCall.{short, pool-long, table-long, called}
use mathlib.Core.Bool.{not}
use mathlib.Core.Path.{ap}
use Rattle.text.proofs.read_text.Goals as goal

pub returns-then-not-lent : goal.returns-then-not-lent
returns-then-not-lent c = short _ _ _ _ _ (lent.short _ _ _ _ c.lent.result c.lent.ensures (ap not c.if-not-lent.true))

pub read_given-answer-requires : goal.read_given-answer-requires
read_given-answer-requires c =
    let l : Long c.args.pool.now c.args.table.now c.args.res.now c.args.work.now =
    lent.long _ _ _ _ c.lent.result c.lent.ensures (ap not c.if-not-lent.false) in
    record { pool_long = pool-long l; table_long = table-long l; result_long = l.result-long; work_long = omega (arith, l.work-long) }

pub returns : goal.returns
returns c =
    let enough : Long c.args.pool.now c.args.table.now c.args.res.now c.args.work.now =
    lent.long _ _ _ _ c.lent.result c.lent.ensures (ap not c.if-not-lent.false) in
    called _ _ _ _ _ (enough) c.read_given-answer.ensures c.read_given-answer.auto.work c.clear.ensures
