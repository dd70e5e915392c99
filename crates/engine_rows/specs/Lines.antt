-- The constraints of a set, one after another, as rows.
use Rattle.std.specs.Prelude.{take}
use mathlib.Core.List.{List, map}
use Prim.Native.Nat.{ℕ}
use Rattle.std.proofs.Math.ListN.{length}
use Rattle.std.proofs.Math.Dec.{leb}
use Rattle.rules.specs.Base.{Got, got, ◌>>=◌, ◌>>◌, need, each}
use Rattle.rules.specs.Names.{Bytes, numbered}
use Rattle.rules.specs.Trees as tree
use Rattle.rules.specs.Trees.{Product, Con, equal, isDim, is_scalar, hasField}
use Rattle.rules.specs.Elimination as Rows
use Rattle.rules.specs.Elimination.{row_of, scalarOf}
use Rattle.engine_matrix.specs.Grids.{rowsIn}
use Rattle.engine_rows.specs.declared.Lines.{Lines}
use Rattle.engine_rows.specs.Atoms.{GoodPowers, padded}

-- products with well formed powers
abbrev pub Plain : Con ℕ → Type 0
Plain (equal l r) = Unit {0}
Plain (isDim t) = Unit {0}
Plain (is_scalar p) = GoodPowers p
Plain (hasField n l r) = Unit {0}

abbrev pub paddedRows : List Bytes → List (tree.Atom ℕ) → List (Product ℕ) → List Rows.Row
paddedRows names cols ps = map (λ p. padded (row_of (numbered names) cols p)) ps

-- equal-scalars alone, at most 24, as rows; 8 where they are not
unfoldable pub laidOut : List Bytes → List (tree.Atom ℕ) → List (Con ℕ) → Got (List Rows.Row)
laidOut names cols cs = do
  ps ← each scalarOf cs
  need (leb (length ps) 24) 8
  got (paddedRows names cols ps)

-- the rows that were laid out
abbrev pub rowsOf : Lines → List Rows.Row
rowsOf l = take l.len (rowsIn l.grid)
