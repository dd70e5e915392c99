-- `replace_factors` meets its contract: so many factors are done, and doing the rest gives the whole.
use mathlib.Core.Path.{sym, ap, ◌∙◌}
use native.Mathlib.Omega.{arith}
use Rattle.std.proofs.lemmas.Result.{err_from_is_err_and}
use Rattle.rules.specs.Refusals.{toldOptionBy}
use Rattle.types.specs.Shapes.{tree_of as type_of}
use Rattle.products.specs.Told.{answer, factorAt, tree_of}
use Rattle.replace.proofs.InProducts.{taken, fine-told, fine-at, atom-good, put-none, put-bound, going_start, going-stop, going_on, going_end}
use Rattle.replace.proofs.inner.dims.replace_factors.Goals as goal
use Rattle.replace.proofs.inner.dims.replace_factors.Goals.{in-Some+in_ok-acc, in_default}

pub loop-i-init : goal.loop-i-init
loop-i-init c = (omega arith, λ a w. going_start c.args.by.names.pool.now c.args.by.names.table.now c.args.p.now a c.args.by.lent.0 w)

pub offset_bounds-p-i : goal.offset_bounds-p-i
offset_bounds-p-i c = omega (arith, (taken c.args.by.names.pool.now c.args.by.names.table.now c.args.p.now c.requires.whole.0 c.requires.whole.1).well.few)

pub bounds-p-i : goal.bounds-p-i
bounds-p-i c = omega (arith, (taken c.args.by.names.pool.now c.args.by.names.table.now c.args.p.now c.requires.whole.0 c.requires.whole.1).well.few)

pub put_in-requires : goal.put_in-requires
put_in-requires c =
    let s = c.args in
    let n = c.loop-i in
    let (a, w) = c.requires.whole in
    let g = n.invariant.1 a w in
    record {
      whole = (g.tree, g.whole);
      fine = fine-at s.by.names.pool.now s.by.names.table.now s.p.now a s.by.lent.0 w n.i c.loop-i-test.true;
      good = atom-good s.by.names.pool.now s.by.names.table.now s.by.lent.0 s.by.lent.1.good (tree_of (factorAt s.p.now n.i)) c.in-Some.t.tree.0
          (sym c.bound.ensures ∙ ap (toldOptionBy type_of) c.in-Some.is);
    }

pub returns-in_err-acc : goal.returns-in_err-acc
returns-in_err-acc c = λ a w.
    let s = c.args in
    let n = c.loop-i in
    let g = n.invariant.1 a w in
    let f = factorAt s.p.now n.i in
    let pool = s.by.names.pool.now in
    let table = s.by.names.table.now in
    let h = put-bound pool table f s.by.lent.0 g.tree c.in-Some.t.tree.0 _ (sym c.bound.ensures ∙ ap (toldOptionBy type_of) c.in-Some.is)
    (c.in_err-acc.ensures g.tree g.whole) in
    let p = err_from_is_err_and c.from_residual.result c.from_residual.ensures.1 in
    rw (p.1, p.2) (going-stop pool table s.p.now a s.by.lent.0 w n.acc n.i c.loop-i-test.true g _ h)

pub loop-i-preserved : goal.loop-i-preserved
loop-i-preserved c = (
  omega arith,
  λ a w.
      let s = c.args in
      let n = c.loop-i in
      let g = n.invariant.1 a w in
      let f = factorAt s.p.now n.i in
      let pool = s.by.names.pool.now in
      let table = s.by.names.table.now in
      elim c.match-bound.branch [
        | in-Some+in_ok-acc v ↦
            let h = put-bound pool table f s.by.lent.0 g.tree v.in-Some.t.tree.0 _ (sym c.bound.ensures ∙ ap (toldOptionBy type_of) v.in-Some.is)
            (v.in_ok-acc.ensures g.tree g.whole) in
            rw v.acc-is (going_on pool table s.p.now a s.by.lent.0 w n.acc n.i c.loop-i-test.true g s.by.lent.1.good _ h)
        | in_default v ↦
            let h = fine-told _ g.tree g.whole.is ∙ ap answer
            (put-none pool table f s.by.lent.0 g.tree (sym c.bound.ensures ∙ ap (toldOptionBy type_of) v.in_default.is)) in
            rw v.acc-is (going_on pool table s.p.now a s.by.lent.0 w n.acc n.i c.loop-i-test.true g s.by.lent.1.good _ h)
      ],
)

pub returns : goal.returns
returns c = λ a w.
    let s = c.args in
    let n = c.loop-i in
    let g = n.invariant.1 a w in
    fine-told _ g.tree g.whole.is ∙ ap answer (sym (going_end s.by.names.pool.now s.by.names.table.now s.p.now a s.by.lent.0 w n.acc n.i c.loop-i-test.false g))
