-- `inner::put_factors` meets its contract. The invariant: the factors of the columns so far.
use mathlib.Core.Path.{ap, ap₂, ◌∙◌, sym}
use native.Mathlib.Omega.{arith}
use Prim.Native.Nat.{ℕ}
use Rattle.rules.specs.Exponents.{Exp, isZero}
use Rattle.rules.specs.Trees.{Atom, ◌↑◌}
use Rattle.rules.specs.Writing.{writeFactor}
use Rattle.records.proofs.Cut.{fits}
use Rattle.records.specs.Views.{recOf}
use Rattle.engine_matrix.specs.Told.{row_in}
use Rattle.engine_matrix.specs.Machine.{colsIn}
use Rattle.engine_matrix.proofs.Machine.{columns-few}
use Rattle.engine_rows.proofs.Atoms.{cols-long}
use Rattle.engine.proofs.Factors.{putting-start, putting-skip, putting-put, putting-done}
use Rattle.engine.proofs.inner.put_factors.Goals as goal

pub loop-j-init : goal.loop-j-init
loop-j-init c = let a = c.args in putting-start a.out.now (colsIn a.k) (row_in a.r)

pub overflow_add-n : goal.overflow_add-n
overflow_add-n c = omega (arith, c.loop-j.invariant.few, columns-few c.args.k, c.loop-j-test.true)

pub loop-j-preserved : goal.loop-j-preserved
loop-j-preserved c =
    let a = c.args in
    putting-put _ _ _ c.loop-j.j (colsIn a.k) (row_in a.r) c.loop-j.invariant
    (omega (arith, c.loop-j-test.true, cols-long a.k))
    (omega (arith, c.loop-j-test.true, columns-few a.k, a.r.long))
    _ _ (ap isZero (sym c.power_at-e.ensures) ∙ sym c.is_zero.ensures ∙ c.if-is_zero.false)
    (ap (recOf c.factor_view.result) (fits 1 (omega arith)) ∙ c.factor_view.ensures
    ∙ ap₂ (λ (b : Atom ℕ) (e : Exp). writeFactor (b ↑ e)) c.atom_at.ensures c.power_at-e.ensures)
    c.put.ensures

pub loop-j-preserved-then-is_zero : goal.loop-j-preserved-then-is_zero
loop-j-preserved-then-is_zero c =
    let a = c.args in
    putting-skip _ _ _ c.loop-j.j (colsIn a.k) (row_in a.r) c.loop-j.invariant
    (omega (arith, c.loop-j-test.true, cols-long a.k))
    (omega (arith, c.loop-j-test.true, columns-few a.k, a.r.long))
    (ap isZero (sym c.power_at-e.ensures) ∙ sym c.is_zero.ensures ∙ c.if-is_zero.true)

pub returns : goal.returns
returns c =
    putting-done _ _ _ c.loop-j.j (colsIn c.args.k) (row_in c.args.r) c.loop-j.invariant (omega (arith, c.loop-j-test.false, cols-long c.args.k))
