-- `inner::row_of` meets its contract. The invariant: the powers of the columns so far.
use mathlib.Core.Path.{◌≡◌, sym, ◌∙◌, ap, subst}
use mathlib.Core.List.{List, []}
use mathlib.Core.Bool.{true}
use native.Mathlib.Omega.{arith}
use lib.ListN.{get_or}
use lib.Seq.{take_all}
use Rattle.rules.specs.Exponents.{Exp, nought, goodExp}
use Rattle.rules.specs.Names.{numbered}
use Rattle.rules.specs.Trees.{base}
use Rattle.exponents.specs.Answers.{expOf}
use Rattle.rules.specs.Elimination.{powerIn, row_of}
use Rattle.engine_matrix.specs.Told.{row_in}
use Rattle.engine_matrix.specs.Machine.{colsIn}
use Rattle.engine_matrix.proofs.Machine.{columns-few}
use Rattle.engine_rows.specs.Atoms.{padded}
use Rattle.engine_rows.proofs.Atoms.{one_more, cols-long, row_at, row-long, power-good}
use Rattle.engine_rows.proofs.inner.row_of.Goals as goal

pub loop-j-init : goal.loop-j-init
loop-j-init c names = c.zeros-out.ensures

pub atom_at-requires : goal.atom_at-requires
atom_at-requires c = record { column = c.loop-j-test.true }

pub with_power-out-requires : goal.with_power-out-requires
with_power-out-requires c = record {
  column = omega (arith, columns-few c.args.k, c.loop-j-test.true);
  power = subst (λ (e : Exp). goodExp e ≡ true) (sym (c.power_in.ensures [])) (power-good [] c.args.product.factors.0 _ c.requires.good);
}

pub loop-j-preserved : goal.loop-j-preserved
loop-j-preserved c names =
    let p = c.args.product.factors.0 in
    let k = c.args.k in
    let this-power : expOf c.power_in.result ≡ get_or (row_of (numbered names) (colsIn k) p) c.loop-j.j nought =
    c.power_in.ensures names ∙ ap (powerIn (numbered names) p) c.atom_at.ensures
    ∙ row_at names (colsIn k) p c.loop-j.j (base 0) (omega (arith, cols-long k, c.loop-j-test.true)) in
    one_more (row_in c.loop-j.out) (row_in c.with_power-out.result) (row_of (numbered names) (colsIn k) p) c.loop-j.j (expOf c.power_in.result)
    (omega (arith, row-long names (colsIn k) p, cols-long k, c.loop-j-test.true))
    (omega (arith, row-long names (colsIn k) p, cols-long k, columns-few k))
    (c.loop-j.invariant names) this-power c.with_power-out.ensures

pub returns : goal.returns
returns c names =
    let p = c.args.product.factors.0 in
    subst (λ (l : List Exp). row_in c.loop-j.out ≡ padded l) (take_all c.loop-j.j (row_of (numbered names) (colsIn c.args.k) p)
    (omega (arith, row-long names (colsIn c.args.k) p, cols-long c.args.k, c.loop-j-test.false))) (c.loop-j.invariant names)
