-- `inner::rows::plus_row` meets its contract. The invariant: the sums so far, and those to come, are all of them.
use mathlib.Core.Path.{◌≡◌, ap, ap₂, ◌∙◌, sym}
use mathlib.Core.Bool.{true}
use Prim.Native.Nat.{ℕ}
use native.Mathlib.Omega.{arith}
use lib.ListN.{length, get_or}
use Rattle.std.proofs.lemmas.Result.{err_from_is_err_and}
use Rattle.rules.specs.Base.{Got, bounded}
use Rattle.rules.specs.Exponents.{Exp, nought, goodExp, sum}
use Rattle.laws.proofs.Ranges.{sum-good}
use Rattle.exponents.specs.declared.Exponent.{Exponent}
use Rattle.exponents.specs.Answers.{expOf}
use Rattle.engine_matrix.specs.declared.inner.parts.Row.{Row}
use Rattle.engine_matrix.specs.Told.{row_in}
use Rattle.engine_matrix.proofs.Loops.{start, onward, stop, all-done, pairUp, plus-each, pair-length, pair-at}
use Rattle.engine_matrix.proofs.inner.rows.plus_row.Goals as goal

module _ (a b : Row) where
  -- two rows of one length
  as_long : length (row_in a) ≡ length (row_in b)
  as_long = a.long ∙ sym b.long

  pairs-long : length (pairUp (row_in a) (row_in b)) ≡ 48
  pairs-long = pair-length (row_in a) (row_in b) as_long ∙ a.long

  -- the sum at a place
  summed : (j : ℕ) (x y : Exponent) (m : Got Exp) → expOf x ≡ get_or (row_in a) j nought → expOf y ≡ get_or (row_in b) j nought
      → m ≡ sum bounded (expOf x) (expOf y) → let p = get_or (pairUp (row_in a) (row_in b)) j (nought, nought) in sum bounded p.0 p.1 ≡ m
  summed j x y m e i q =
      ap (λ (p : Exp × Exp). sum bounded p.0 p.1) (pair-at (row_in a) (row_in b) j as_long) ∙ ap₂ (sum bounded) (sym e) (sym i) ∙ sym q

pub loop-j-init : goal.loop-j-init
loop-j-init c = start _ _ (row_in c.args.a)

pub sum_of-requires : goal.sum_of-requires
sum_of-requires c = (rw c.power_at.ensures (c.args.a.good c.loop-j.j), rw c.power_at-in-loop-j.ensures (c.args.b.good c.loop-j.j))

pub returns-in_err-e : goal.returns-in_err-e
returns-in_err-e c =
    let a = c.args in
    let p = err_from_is_err_and c.from_residual.result c.from_residual.ensures.1 in
    let stepped = summed a.a a.b c.loop-j.j _ _ _ c.power_at.ensures c.power_at-in-loop-j.ensures c.in_err-e.ensures in
    rw (p.1, p.2)
    (sym (plus-each (row_in a.a) (row_in a.b) (as_long a.a a.b)
    ∙ stop _ (pairUp (row_in a.a) (row_in a.b)) c.loop-j.j (nought, nought) (omega (arith, pairs-long a.a a.b))
    (row_in c.loop-j.out) _ c.loop-j.invariant stepped))

pub with_power-out-requires : goal.with_power-out-requires
with_power-out-requires c =
    let of-a : goodExp (expOf c.power_at.result) ≡ true = rw c.power_at.ensures (c.args.a.good c.loop-j.j) in
    let of-b : goodExp (expOf c.power_at-in-loop-j.result) ≡ true = rw c.power_at-in-loop-j.ensures (c.args.b.good c.loop-j.j) in
    record { column = omega arith; power = (sum-good _ _ of-a of-b).holds _ (sym c.in_ok-e.ensures) }

pub loop-j-preserved : goal.loop-j-preserved
loop-j-preserved c =
    let a = c.args in
    let stepped = summed a.a a.b c.loop-j.j _ _ _ c.power_at.ensures c.power_at-in-loop-j.ensures c.in_ok-e.ensures in
    onward _ (pairUp (row_in a.a) (row_in a.b)) c.loop-j.j (nought, nought) (omega (arith, pairs-long a.a a.b))
    (row_in c.loop-j.out) (row_in c.with_power-out.result) _ c.loop-j.invariant (omega (arith, c.loop-j.out.long))
    stepped c.with_power-out.ensures

pub returns : goal.returns
returns c =
    let a = c.args in
    sym (plus-each (row_in a.a) (row_in a.b) (as_long a.a a.b)
    ∙ all-done _ (pairUp (row_in a.a) (row_in a.b)) c.loop-j.j (row_in c.loop-j.out) c.loop-j.invariant (omega (arith, pairs-long a.a a.b))
    (omega (arith, c.loop-j.out.long)))
