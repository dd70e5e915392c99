-- `inner::grids::put_in_rows` meets its contract. The invariant: the rows so far, and those to come, are all of them.
use mathlib.Core.Path.{◌≡◌, ap, ◌∙◌, sym}
use mathlib.Core.List.{List, []}
use Prim.Native.Nat.{ℕ, ◌+◌, ◌<◌, ◌≤◌}
use native.Mathlib.Omega.{arith}
use lib.ListN.{length, take, drop, get_or}
use Rattle.std.proofs.lemmas.Result.{err_from_is_err_and}
use Rattle.rules.specs.Base.{Got, got}
use Rattle.rules.specs.Elimination.{Row, putInRow}
use Rattle.engine_matrix.specs.Told.{row_in}
use Rattle.engine_matrix.specs.Grids.{rowsIn}
use Rattle.engine_matrix.proofs.Grids.{grid-long}
use Rattle.engine_matrix.proofs.Loops.{start, onward, stop, done, part-long, part_at}
use Rattle.engine_matrix.proofs.inner.grids.put_in_rows.Goals as goal

-- the row at a place of a part, put into
row-here : (f : Row → Got Row) (rows : List Row) (s m i : ℕ) (r : Row) (q : Got Row) → s + m ≤ length rows → i < m → r ≡ get_or rows (s + i) []
    → q ≡ f r → f (get_or (take m (drop s rows)) i []) ≡ q
row-here f rows s m i r q h k e j = ap f (part_at rows s m h i [] k ∙ sym e) ∙ sym j

pub loop-i-init : goal.loop-i-init
loop-i-init c = start _ _ (rowsIn c.args.g)

pub returns-in_err-r : goal.returns-in_err-r
returns-in_err-r c =
    let a = c.args in
    let p = err_from_is_err_and c.from_residual.result c.from_residual.ensures.1 in
    let all : a.s + a.m ≤ length (rowsIn a.g) = omega (arith, grid-long a.g, c.requires.places) in
    let stepped = row-here (putInRow a.c (row_in a.w)) (rowsIn a.g) a.s a.m c.loop-i.i _ _ all (omega arith) c.row_at.ensures c.in_err-r.ensures in
    rw (p.1, p.2) (sym (stop _ _ c.loop-i.i [] (omega (arith, part-long (rowsIn a.g) a.s a.m all)) (rowsIn c.loop-i.out) _ c.loop-i.invariant stepped))

pub loop-i-preserved : goal.loop-i-preserved
loop-i-preserved c =
    let a = c.args in
    let all : a.s + a.m ≤ length (rowsIn a.g) = omega (arith, grid-long a.g, c.requires.places) in
    let stepped = row-here (putInRow a.c (row_in a.w)) (rowsIn a.g) a.s a.m c.loop-i.i _ _ all (omega arith) c.row_at.ensures c.in_ok-r.ensures in
    onward _ _ c.loop-i.i [] (omega (arith, part-long (rowsIn a.g) a.s a.m all)) (rowsIn c.loop-i.out) (rowsIn c.with_row-out.result) _ c.loop-i.invariant
    (omega (arith, grid-long c.loop-i.out, c.requires.places)) stepped c.with_row-out.ensures

pub returns : goal.returns
returns c =
    let a = c.args in
    let i : c.loop-i.i ≡ a.m = omega arith in
    sym (done _ _ c.loop-i.i (rowsIn c.loop-i.out) c.loop-i.invariant
    (omega (arith, part-long (rowsIn a.g) a.s a.m (omega (arith, grid-long a.g, c.requires.places))))
    ∙ ap (λ (k : ℕ). got (take k (rowsIn c.loop-i.out))) i)
