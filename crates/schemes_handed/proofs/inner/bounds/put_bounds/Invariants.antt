use Rattle.schemes_handed.specs.Bounds.{Rename, Renames}
use Rattle.schemes_handed.proofs.OnBounds.{Going}
use Rattle.schemes_handed.proofs.inner.bounds.put_bounds.Given as goal

abbrev pub invariant-loop-i : goal.invariant-loop-i
invariant-loop-i l = (f : Rename) → Renames l.by.lent.0 f → Going l.words l.all f l.fn.bounds.listed.0 l.fn.out l.out l.i
