-- `put_in` meets its contract: the first of the four steps that refuses, refuses the whole.
use Rattle.std.proofs.lemmas.Result.{err_from_is_err_and}
use Rattle.products.proofs.Held.{well-sound}
use Rattle.products.proofs.OnKinds.{value-back}
use Rattle.replace.proofs.InProducts.{taken, only-whole, exp-good, D, L, M, put_first, put_second, put-third, put_last}
use Rattle.replace.proofs.inner.dims.put_in.Goals as goal

pub returns-in_err-bound : goal.returns-in_err-bound
returns-in_err-bound c = λ a w.
    let s = c.args in
    let p = err_from_is_err_and c.from_residual.result c.from_residual.ensures.1 in
    rw (p.1, p.2) (put_first s.names.pool.now s.names.table.now s.f c.requires.fine a s.t.tree.0 _ c.in_err-bound.ensures)

pub divided-requires-clause-left : goal.divided-requires-clause-left
divided-requires-clause-left c = (taken c.args.names.pool.now c.args.names.table.now c.args.acc.now c.requires.whole.0 c.requires.whole.1).well

pub divided-requires-clause-right : goal.divided-requires-clause-right
divided-requires-clause-right c =
    let s = c.args in
    (taken s.names.pool.now s.names.table.now c.only.result _
    (only-whole s.names.pool.now s.names.table.now s.f c.requires.fine c.only.result (c.only.ensures _ (value-back s.f c.requires.fine.kind)))).well

pub returns-in_err-left : goal.returns-in_err-left
returns-in_err-left c = λ a w.
    let s = c.args in
    let o = only-whole s.names.pool.now s.names.table.now s.f c.requires.fine c.only.result (c.only.ensures _ (value-back s.f c.requires.fine.kind)) in
    let p = err_from_is_err_and c.from_residual-in_err-left.result c.from_residual-in_err-left.ensures.1 in
    rw (p.1, p.2)
    (put_second s.names.pool.now s.names.table.now s.f c.requires.fine s.acc.now c.only.result a s.t.tree.0 w o c.requires.good c.in_ok-bound.bound
    c.in_ok-bound.ensures _ c.in_err-left.ensures)

pub raised-requires-clause-sound : goal.raised-requires-clause-sound
raised-requires-clause-sound c =
    let s = c.args in
    let t = s.t.tree.0 in
    let o = only-whole s.names.pool.now s.names.table.now s.f c.requires.fine c.only.result (c.only.ensures _ (value-back s.f c.requires.fine.kind)) in
    let d = D s.names.pool.now s.names.table.now s.f c.requires.fine s.acc.now c.only.result c.requires.whole.0 t c.requires.whole.1 o c.requires.good
    c.in_ok-bound.bound c.in_ok-bound.ensures in
    well-sound (taken s.names.pool.now s.names.table.now _ d.tree d.whole).well

pub raised-requires-clause-power : goal.raised-requires-clause-power
raised-requires-clause-power c = exp-good c.args.names.pool.now c.args.names.table.now c.args.f c.requires.fine

pub returns-in_err-more : goal.returns-in_err-more
returns-in_err-more c = λ a w.
    let s = c.args in
    let o = only-whole s.names.pool.now s.names.table.now s.f c.requires.fine c.only.result (c.only.ensures _ (value-back s.f c.requires.fine.kind)) in
    let p = err_from_is_err_and c.from_residual-in_err-more.result c.from_residual-in_err-more.ensures.1 in
    rw (p.1, p.2)
    (put-third s.names.pool.now s.names.table.now s.f c.requires.fine s.acc.now c.only.result a s.t.tree.0 w o c.requires.good c.in_ok-bound.bound
    c.in_ok-bound.ensures
    c.in_ok-left.left c.in_ok-left.ensures _ c.in_err-more.ensures)

pub multiplied-requires-clause-left : goal.multiplied-requires-clause-left
multiplied-requires-clause-left c =
    let s = c.args in
    let t = s.t.tree.0 in
    let o = only-whole s.names.pool.now s.names.table.now s.f c.requires.fine c.only.result (c.only.ensures _ (value-back s.f c.requires.fine.kind)) in
    let l = L s.names.pool.now s.names.table.now s.f c.requires.fine s.acc.now c.only.result c.requires.whole.0 t c.requires.whole.1 o c.requires.good
    c.in_ok-bound.bound c.in_ok-bound.ensures
    c.in_ok-left.left c.in_ok-left.ensures in
    (taken s.names.pool.now s.names.table.now _ l.tree l.whole).well

pub multiplied-requires-clause-right : goal.multiplied-requires-clause-right
multiplied-requires-clause-right c =
    let s = c.args in
    let t = s.t.tree.0 in
    let o = only-whole s.names.pool.now s.names.table.now s.f c.requires.fine c.only.result (c.only.ensures _ (value-back s.f c.requires.fine.kind)) in
    let m = M s.names.pool.now s.names.table.now s.f c.requires.fine s.acc.now c.only.result c.requires.whole.0 t c.requires.whole.1 o c.requires.good
    c.in_ok-bound.bound c.in_ok-bound.ensures
    c.in_ok-left.left c.in_ok-left.ensures c.in_ok-more.more c.in_ok-more.ensures in
    (taken s.names.pool.now s.names.table.now _ m.tree m.whole).well

pub returns : goal.returns
returns c = λ a w.
    let s = c.args in
    let o = only-whole s.names.pool.now s.names.table.now s.f c.requires.fine c.only.result (c.only.ensures _ (value-back s.f c.requires.fine.kind)) in
    put_last s.names.pool.now s.names.table.now s.f c.requires.fine s.acc.now c.only.result a s.t.tree.0 w o c.requires.good c.in_ok-bound.bound
    c.in_ok-bound.ensures
    c.in_ok-left.left c.in_ok-left.ensures c.in_ok-more.more c.in_ok-more.ensures _ c.multiplied.ensures
