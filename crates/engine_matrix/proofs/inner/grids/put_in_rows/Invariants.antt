use lib.ListN.{take, drop}
use Rattle.rules.specs.Elimination.{putInRow}
use Rattle.engine_matrix.specs.Told.{row_in}
use Rattle.engine_matrix.specs.Grids.{rowsIn}
use Rattle.engine_matrix.proofs.Loops.{Sofar}
use Rattle.engine_matrix.proofs.inner.grids.put_in_rows.Given as goal

abbrev pub invariant-loop-i : goal.invariant-loop-i
invariant-loop-i l = Sofar (putInRow l.c (row_in l.w)) (take l.m (drop l.s (rowsIn l.g))) l.i (rowsIn l.out)
