use mathlib.Core.Path.{◌≡◌}
use mathlib.Core.List.{List}
use lib.ListN.{take}
use Rattle.rules.specs.Names.{Bytes, numbered}
use Rattle.rules.specs.Elimination.{row_of}
use Rattle.engine_matrix.specs.Told.{row_in}
use Rattle.engine_matrix.specs.Machine.{colsIn}
use Rattle.engine_rows.specs.Atoms.{padded}
use Rattle.engine_rows.proofs.inner.row_of.Given as goal

abbrev pub invariant-loop-j : goal.invariant-loop-j
invariant-loop-j l = (names : List Bytes) → row_in l.out ≡ padded (take l.j (row_of (numbered names) (colsIn l.k) l.product.factors.0))
