use mathlib.Core.List.{map}
use lib.ListN.{take}
use Rattle.rules.specs.Base.{collect}
use Rattle.rules.specs.Trees.{is_scalar}
use Rattle.rules.specs.Writing.{writeCon}
use Rattle.rules.specs.Elimination.{factors}
use Rattle.types.specs.Written.{Writes}
use Rattle.engine_matrix.specs.Machine.{colsIn, staying}
use Rattle.engine.proofs.inner.put_lines.Given as goal

abbrev pub invariant-loop-i : goal.invariant-loop-i
invariant-loop-i l = Writes l.fn.out l.out (collect writeCon (take l.i (map (λ r. is_scalar (factors (colsIn l.k) r)) (staying l.m))))
