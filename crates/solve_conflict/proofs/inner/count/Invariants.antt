use Rattle.std.specs.Prelude.{◌≡◌, ◌+◌, length}
use Rattle.types.proofs.OnSets.{alone}
use Rattle.types.specs.Shapes.{cons_of}
use Rattle.solve_conflict.proofs.inner.count.Given as goal

abbrev pub invariant-count : goal.invariant-count
invariant-count l = l.many + length (alone (cons_of l._c-iterator)) ≡ length l.fn.set.trees.0
