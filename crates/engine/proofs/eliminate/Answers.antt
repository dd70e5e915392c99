-- `eliminate` meets its contract.
use Rattle.records_buffers.proofs.OnLent.{Long, long, short}
use Rattle.engine.proofs.Entry.{over_tested, answers-as, call-short, called}
use mathlib.Core.Bool.{not}
use mathlib.Core.Path.{refl, ap, sym}
use Rattle.engine.proofs.eliminate.Goals as goal

pub returns-then-not-lent : goal.returns-then-not-lent
returns-then-not-lent c =
    call-short _ _ _ _ _ (short _ _ _ _ c.lent.result c.lent.ensures (ap not c.if-not-lent.true))

pub eliminate_set-answer-requires : goal.eliminate_set-answer-requires
eliminate_set-answer-requires c =
    let a = c.args in
    let l : Long a.pool.now a.table.now a.res.now a.work.now = long _ _ _ _ c.lent.result c.lent.ensures (ap not c.if-not-lent.false) in
    record { room = l.result-long }

pub returns : goal.returns
returns c =
    let a = c.args in
    let l : Long a.pool.now a.table.now a.res.now a.work.now = long _ _ _ _ c.lent.result c.lent.ensures (ap not c.if-not-lent.false) in
    let over = over_tested a.words.now _ a.pool.now a.table.now l.table-met c.new-names.ensures.answer c.new-names.ensures.same in
    called _ _ _ _ _ a.work.now _ _ _ refl l.met (answers-as _ _ _ _ _ (sym over) c.eliminate_set-answer.ensures) c.clear.ensures
