-- `inner::grids::binding` meets its contract: each place where a power can leave the range, and the machine afterwards.
use mathlib.Core.Path.{◌≡◌, ap, ◌∙◌, sym}
use mathlib.Core.List.{List}
use Prim.Native.Nat.{ℕ}
use native.Mathlib.Omega.{arith}
use Rattle.std.proofs.lemmas.Result.{err_from_is_err_and}
use Rattle.std.proofs.lemmas.List.{length-set}
use Rattle.rules.specs.Base.{Got}
use Rattle.rules.specs.Trees.{Atom}
use Rattle.engine_matrix.specs.declared.inner.parts.Machine.{Machine}
use Rattle.engine_matrix.specs.declared.inner.parts.Row as code
use Rattle.rules.specs.Elimination.{Row, solvedFor, fate, binds}
use Rattle.engine_matrix.specs.Told.{row_in}
use Rattle.engine_matrix.specs.Machine.{rest, firstRow}
use Rattle.engine_matrix.proofs.Steps.{went-refused, went-refused-rows, went-refused-values, went-bound}
use Rattle.engine_matrix.proofs.inner.grids.binding.Goals as goal

-- the machine's first row is the row that binds
first : (m : Machine) (r : code.Row) (c x : ℕ) (cols : List (Atom ℕ)) → fate cols (row_in r) ≡ binds c x → firstRow m ≡ row_in r
    → fate cols (firstRow m) ≡ binds c x
first m r c x cols e i = ap (fate cols) i ∙ e

solved : (m : Machine) (r : code.Row) (c : ℕ) (s : Got Row) → firstRow m ≡ row_in r → s ≡ solvedFor c (row_in r) → solvedFor c (firstRow m) ≡ s
solved m r c s i q = ap (solvedFor c) i ∙ sym q

pub returns-in_err-w : goal.returns-in_err-w
returns-in_err-w c cols e i =
    let a = c.args in
    let p = err_from_is_err_and c.from_residual.result c.from_residual.ensures.1 in
    rw (p.1, p.2) (went-refused a.m c.requires.left cols a.c a.x (first a.m a.r a.c a.x cols e i) _ (solved a.m a.r a.c _ i c.in_err-w.ensures))

pub returns-in_err-rows : goal.returns-in_err-rows
returns-in_err-rows c cols e i =
    let a = c.args in
    let p = err_from_is_err_and c.from_residual-in_err-rows.result c.from_residual-in_err-rows.ensures.1 in
    rw (p.1, p.2)
    (went-refused-rows a.m c.requires.left cols a.c a.x (first a.m a.r a.c a.x cols e i) _ _
    (solved a.m a.r a.c _ i c.in_ok-w.ensures) (sym c.in_err-rows.ensures))

pub returns-in_err-values : goal.returns-in_err-values
returns-in_err-values c cols e i =
    let a = c.args in
    let p = err_from_is_err_and c.from_residual-in_err-values.result c.from_residual-in_err-values.ensures.1 in
    rw (p.1, p.2)
    (went-refused-values a.m c.requires.left cols a.c a.x (first a.m a.r a.c a.x cols e i) _ _ _
    (solved a.m a.r a.c _ i c.in_ok-w.ensures) (sym c.in_ok-rows.ensures) (sym c.in_err-values.ensures))

pub with_row-q-requires : goal.with_row-q-requires
with_row-q-requires c = record { place = omega (arith, c.args.m.room, c.requires.left) }

pub invariant_of-q : goal.invariant_of-q
invariant_of-q c =
    let m = c.args.m in
    record { named = length-set m.names m.found _ ∙ m.named; here = omega (arith, m.here); room = omega (arith, m.room, c.requires.left) }

pub returns : goal.returns
unfolding rest
returns c cols e i =
    let a = c.args in (
      omega (arith, c.requires.left),
      went-bound a.m c.requires.left cols a.c a.x (first a.m a.r a.c a.x cols e i) _ c.in_ok-rows.rows c.in_ok-values.values c.with_row-q.result
          c.with_row-q.ensures (solved a.m a.r a.c _ i c.in_ok-w.ensures) (sym c.in_ok-rows.ensures) (sym c.in_ok-values.ensures),
    )
