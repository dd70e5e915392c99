use Rattle.rules.specs.Writing.{writeCon}
use Rattle.types.proofs.OnSets.{alone}
use Rattle.types.specs.Shapes.{cons_of}
use Rattle.replace.specs.Well.{GoodCon}
use Rattle.replace.specs.Leaves.{conBy}
use Rattle.replace.proofs.Each.{Still}
use Rattle.replace.proofs.inner.constraints.replace_constraints.Given as goal

abbrev pub invariant-constraints : goal.invariant-constraints
invariant-constraints l = Still writeCon (conBy l.fn.by) (GoodCon l.fn.by.names.pool.now l.fn.by.names.table.now) l.fn.out l.out
    (alone (cons_of l.c-iterator)) l.fn.cs.trees.0
