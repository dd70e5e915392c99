-- `solve` meets its contract.
use Rattle.std.specs.Prelude.{List, ℕ}
use Rattle.rules.specs.Base.{Got, got, bounded}
use Rattle.rules.specs.Calls.{solvedSet}
use Rattle.rules.specs.Names.{numbersOf, table_of}
use Rattle.rules.specs.Solving.{Answer, solve}
use Rattle.records_buffers.proofs.OnLent.{Long, long, short}
use Rattle.types.proofs.Entering.{over_tested}
use Rattle.solve.proofs.Entry.{short-stands, called-stands, call-short, called, answers-as}
use Rattle.solve.specs.Told.{Answered}
use mathlib.Core.Bool.{not}
use mathlib.Core.Path.{ap, sym}
use Rattle.solve.proofs.solve.Goals as goal

pub returns-then-not-lent : goal.returns-then-not-lent
returns-then-not-lent c =
    let e = short _ _ _ _ c.lent.result c.lent.ensures (ap not c.if-not-lent.true) in
    record { stands = short-stands _ _ c.args.words.now _ _ _ c.stopped.ensures e; called = call-short _ _ _ _ _ _ c.stopped.ensures e }

pub solve_set-s-requires : goal.solve_set-s-requires
solve_set-s-requires c = let enough : Long c.args.pool.now c.args.table.now c.args.res.now c.args.work.now =
    long _ _ _ _ c.lent.result c.lent.ensures (ap not c.if-not-lent.false) in
    record { result_room = enough.result-long; room = enough.work-long }

pub returns : goal.returns
unfolding solvedSet
returns c = let enough : Long c.args.pool.now c.args.table.now c.args.res.now c.args.work.now =
    long _ _ _ _ c.lent.result c.lent.ensures (ap not c.if-not-lent.false) in
    let over = over_tested (λ t cs. got (solve (numbersOf t) bounded cs)) c.args.pool.now c.args.table.now enough.table-met _
    c.new-names.ensures.answer c.new-names.ensures.same in
    let answered : Answered (solvedSet (table_of c.args.pool.now c.args.table.now) c.args.words.now) _ _ _ =
    answers-as _ _ _ _ _ (sym (ap (λ (f : List ℕ → Got (Answer ℕ)). f c.args.words.now) over)) c.solve_set-s.ensures in
    record {
      stands = called-stands _ _ _ _ _ _ _ enough.met answered;
      called = called _ _ _ _ _ c.solve_set-s.new.work _ _ _ c.solve_set-s.auto.work enough.met answered c.clear.ensures;
    }
