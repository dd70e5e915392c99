-- `inner::grids::step` meets its contract, by the first power of the row that isn't 0.
use mathlib.Core.Path.{◌≡◌, ap, ◌∙◌, sym}
use Prim.Native.Nat.{ℕ, ◌<◌, ◌≤◌}
use native.Mathlib.Omega.{arith}
use lib.ListN.{length, get_or}
use Rattle.engine_matrix.specs.declared.inner.parts.Columns.{Columns}
use Rattle.engine_matrix.specs.declared.inner.parts.Row.{Row}
use Rattle.rules.specs.Elimination.{fate, gone, stays, binds}
use Rattle.engine_matrix.specs.Told.{row_in}
use Rattle.engine_matrix.specs.Grids.{First}
use Rattle.engine_matrix.specs.Machine.{namesIn, colsIn}
use Rattle.engine_matrix.proofs.Machine.{columns-few, names-long, variable-name}
use Rattle.engine_matrix.proofs.Steps.{fate-none, fate-other, fate-variable}
use Rattle.engine_matrix.proofs.inner.grids.step.Goals as goal

-- what becomes of the row, where its first power that isn't 0 is in column j
module _ (k : Columns) (r : Row) (j : ℕ) (f : First (row_in r) k.len j) where
  long : length (namesIn k) ≤ length (row_in r)
  long = omega (arith, names-long k, columns-few k, r.long)

  none-there : k.len ≤ j → fate (colsIn k) (row_in r) ≡ gone
  unfolding colsIn
  none-there h = fate-none k.variables k.parameters (namesIn k) (row_in r) (λ i b. f.zeros i (omega (arith, names-long k))) long

  other-there : j < k.len → k.variables ≤ j → fate (colsIn k) (row_in r) ≡ stays
  unfolding colsIn
  other-there h v = fate-other k.variables k.parameters (namesIn k) (row_in r) j (omega (arith, names-long k)) long v f.zeros (f.there h)

  variable-there : j < k.len → j < k.variables → fate (colsIn k) (row_in r) ≡ binds j (get_or k.vars j 0)
  unfolding colsIn
  variable-there h v =
      fate-variable k.variables k.parameters (namesIn k) (row_in r) j (omega (arith, names-long k)) long v f.zeros (f.there h)
      ∙ ap (binds j) (variable-name k j v)

pub row_at-r-requires : goal.row_at-r-requires
row_at-r-requires c = record { place = omega (arith, c.args.m.here, c.requires.left) }

pub first_in-c-requires : goal.first_in-c-requires
first_in-c-requires c = record { columns = columns-few c.args.k }

pub returns-then-k-c : goal.returns-then-k-c
returns-then-k-c c =
    c.dropped.ensures (colsIn c.args.k)
    (ap (fate (colsIn c.args.k)) (sym c.row_at-r.ensures) ∙ none-there c.args.k c.row_at-r.result c.first_in-c.result c.first_in-c.ensures c.if-k-c.true)

pub binding-requires : goal.binding-requires
binding-requires c = record { column = omega (arith, columns-few c.args.k); left = c.requires.left }

pub returns-then-c-k : goal.returns-then-c-k
returns-then-c-k c =
    c.binding.ensures (colsIn c.args.k)
    (variable-there c.args.k c.row_at-r.result c.first_in-c.result c.first_in-c.ensures (omega arith) (omega arith)) (sym c.row_at-r.ensures)

pub returns : goal.returns
returns c =
    c.keeping.ensures (colsIn c.args.k)
    (other-there c.args.k c.row_at-r.result c.first_in-c.result c.first_in-c.ensures (omega arith) (omega arith)) (sym c.row_at-r.ensures)
