use Rattle.std.proofs.Common.{arith}
use Rattle.std.proofs.lemmas.Result.{err_from_is_err_and}
use Rattle.solve_step.proofs.Quotient.{whole, whole-well, quotient-is, quotient-fresh, fresh-sound, scalar-put, scalar-stop}
use Rattle.solve_step.proofs.inner.kinds.quotient.Goals as goal

pub divided-requires-clause-left : goal.divided-requires-clause-left
divided-requires-clause-left c = let n = c.args.names in whole-well n.pool.now n.table.now _ (whole n.pool.now n.table.now c.requires.left_good c.value.ensures)

pub divided-requires-clause-right : goal.divided-requires-clause-right
divided-requires-clause-right c = let n = c.args.names in
    whole-well n.pool.now n.table.now _ (whole n.pool.now n.table.now c.requires.right_good c.value-2.ensures)

pub returns-in_err-made : goal.returns-in_err-made
returns-in_err-made c =
    let n = c.args.names in
    let p = whole n.pool.now n.table.now c.requires.left_good c.value.ensures in
    let q = whole n.pool.now n.table.now c.requires.right_good c.value-2.ensures in
    let e = err_from_is_err_and c.from_residual.result c.from_residual.ensures.1 in
    rw (e.1, e.2) (scalar-stop _ _ (quotient-is n.pool.now n.table.now _ _ p q _ c.in_err-made.ensures))

pub overflow_add-made : goal.overflow_add-made
overflow_add-made c =
    let n = c.args.names in
    let p = whole n.pool.now n.table.now c.requires.left_good c.value.ensures in
    let q = whole n.pool.now n.table.now c.requires.right_good c.value-2.ensures in
    omega (arith, (fresh-sound n.pool.now n.table.now _ _ (quotient-fresh n.pool.now n.table.now _ _ p q _ c.in_ok-made.ensures)).few)

pub product-requires : goal.product-requires
product-requires c =
    let n = c.args.names in
    let p = whole n.pool.now n.table.now c.requires.left_good c.value.ensures in
    let q = whole n.pool.now n.table.now c.requires.right_good c.value-2.ensures in
    fresh-sound n.pool.now n.table.now _ _ (quotient-fresh n.pool.now n.table.now _ _ p q _ c.in_ok-made.ensures)

pub returns : goal.returns
returns c =
    let n = c.args.names in
    let p = whole n.pool.now n.table.now c.requires.left_good c.value.ensures in
    let q = whole n.pool.now n.table.now c.requires.right_good c.value-2.ensures in
    scalar-put n.pool.now n.table.now _ _ (quotient-fresh n.pool.now n.table.now _ _ p q _ c.in_ok-made.ensures) c.put.ensures c.product.ensures
