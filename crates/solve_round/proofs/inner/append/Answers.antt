use Rattle.solve_round.proofs.Written.{append-long, append-kept}
use Rattle.solve_round.proofs.inner.append.Goals as goal

pub returns-then-out-gt-RECORDS : goal.returns-then-out-gt-RECORDS
returns-then-out-gt-RECORDS c = λ pool table s n.
    append-long pool table c.args.rest c.args.new.trees.0 s n c.requires.front c.requires.room c.copy_constraints.ensures
    c.copy_constraints-2.ensures c.copy_constraints-3.ensures
    c.copy_bindings.ensures c.if-out-gt-RECORDS.true

pub returns : goal.returns
returns c = λ pool table s n.
    append-kept pool table c.args.rest c.args.new.trees.0 s n c.requires.front c.requires.room c.copy_constraints.ensures
    c.copy_constraints-2.ensures c.copy_constraints-3.ensures
    c.copy_bindings.ensures c.if-out-gt-RECORDS.false
