use Rattle.types.proofs.OnSets.{alone}
use Rattle.types.specs.Shapes.{cons_of}
use Rattle.solve_conflict.proofs.Loops.{Putting}
use Rattle.solve_conflict.proofs.inner.put_standing.Given as goal

abbrev pub invariant-standing : goal.invariant-standing
invariant-standing l = Putting l.stands l.fn.out l.out l.place (alone (cons_of l.c-iterator)) l.fn.set.trees.0
