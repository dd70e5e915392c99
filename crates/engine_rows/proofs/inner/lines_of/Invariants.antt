use mathlib.Core.List.{List}
use Prim.Native.Nat.{◌≤◌}
use Rattle.rules.specs.Names.{Bytes}
use Rattle.laws.specs.Lists.{Every}
use Rattle.types.proofs.OnSets.{alone}
use Rattle.types.specs.Shapes.{cons_of}
use Rattle.engine_matrix.specs.Machine.{colsIn}
use Rattle.engine_rows.specs.Lines.{Plain}
use Rattle.engine_rows.proofs.OnLines.{Going}
use Rattle.engine_rows.proofs.inner.lines_of.Given as goal

abbrev pub invariant-lines : goal.invariant-lines
invariant-lines l = (l.len ≤ 24) × Every Plain (alone (cons_of l.constraint-iterator))
    × ((names : List Bytes) → Going names (colsIn l.k) l.fn.constraints.trees.0 (alone (cons_of l.constraint-iterator)) l.len l.grid)
