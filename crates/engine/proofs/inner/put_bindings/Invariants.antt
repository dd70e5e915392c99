use mathlib.Core.List.{map}
use lib.ListN.{take}
use Rattle.rules.specs.Base.{collect}
use Rattle.rules.specs.Writing.{writeBinding}
use Rattle.rules.specs.Elimination.{boundBy}
use Rattle.types.specs.Written.{Writes}
use Rattle.engine_matrix.specs.Machine.{colsIn, bound}
use Rattle.engine.proofs.inner.put_bindings.Given as goal

abbrev pub invariant-loop-i : goal.invariant-loop-i
invariant-loop-i l = Writes l.fn.out l.out (collect writeBinding (take l.i (map (boundBy (colsIn l.k)) (bound l.m))))
