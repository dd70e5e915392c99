use Rattle.std.proofs.Common.{refl, arith, length-take-le}
use Rattle.laws.proofs.Weaker.{con-weaker}
use Rattle.records.specs.Good.{numbers, holding}
use Rattle.replace.proofs.Came.{came, stopped}
use Rattle.judge_trials.proofs.Trials.{written, tried, fails}
use Rattle.judge_trials.proofs.inner.is_true.Goals as goal

pub replace_constraint-requires : goal.replace_constraint-requires
replace_constraint-requires c =
    let n = c.args.by.names in
    con-weaker (numbers n.pool.now n.table.now) (holding n.pool.now n.table.now) 0 4_294_967_296 (omega arith) c.args.c.tree.0 c.requires.good

pub test-requires : goal.test-requires
test-requires c =
    let k = came c.in-Ok.is c.replace_constraint.ensures in
    record {
      constraint_stands = (
        k.value,
        written c.args.by c.args.c.tree.0 c.requires.good c.requires.plain refl (length-take-le 8192 c.args.work.now c.requires.work_room) k,
      );
    }

pub returns-in-Ok : goal.returns-in-Ok
returns-in-Ok c = λ bs xs same m.
    let k = came c.in-Ok.is c.replace_constraint.ensures in
    tried c.args.by c.args.c.tree.0 bs same xs k _
    (c.test.ensures k.value xs
    (written c.args.by c.args.c.tree.0 c.requires.good c.requires.plain refl (length-take-le 8192 c.args.work.now c.requires.work_room) k) m)

pub returns-in-Err : goal.returns-in-Err
returns-in-Err c = λ bs xs same m.
    fails c.args.by c.args.c.tree.0 bs same xs _ _ (stopped c.in-Err.is c.replace_constraint.ensures) c.stopped.ensures
