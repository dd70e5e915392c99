use Rattle.types.specs.Shapes.{cons_of}
use Rattle.solve_finish.proofs.Others.{Still}
use Rattle.solve_finish.proofs.inner.put_others.Given as goal

abbrev pub invariant-others : goal.invariant-others
invariant-others l = Still l.fn.out l.out (cons_of l.c-iterator) l.fn.constraints.trees.0
