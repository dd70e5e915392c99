use Rattle.types.proofs.OnSets.{alone}
use Rattle.types.specs.Shapes.{cons_of}
use Rattle.solve_conflict.proofs.Loops.{Placing}
use Rattle.solve_conflict.proofs.inner.put_places.Given as goal

abbrev pub invariant-places : goal.invariant-places
invariant-places l = Placing l.stands l.fn.res l.res l.many l.place (alone (cons_of l._c-iterator)) l.fn.set.trees.0
