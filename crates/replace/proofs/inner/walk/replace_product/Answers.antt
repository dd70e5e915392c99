use Rattle.std.proofs.lemmas.Result.{err_from_is_err_and}
use Rattle.replace.proofs.Dimensions.{made, product-leaves, product-stops}
use Rattle.replace.proofs.inner.walk.replace_product.Goals as goal

pub replace_factors-requires : goal.replace_factors-requires
replace_factors-requires c = record { whole = (c.args.p.factors.0, record { is = c.value.ensures; good = c.requires }) }

pub product-requires : goal.product-requires
product-requires c =
    let p = c.args.p in
    let by = c.args.by in
    (made by.names.pool.now by.names.table.now by.lent.0 by.lent.1.good p.factors.0 c.requires c.in_ok-made.made
    (c.in_ok-made.ensures p.factors.0 (record { is = c.value.ensures; good = c.requires }))).sound

pub returns : goal.returns
returns c =
    let p = c.args.p in
    let by = c.args.by in
    product-leaves by.names.pool.now by.names.table.now by.lent.0 by.lent.1.good p.factors.0 c.requires c.in_ok-made.made
    (c.in_ok-made.ensures p.factors.0 (record { is = c.value.ensures; good = c.requires }))
    c.product.ensures

pub returns-in_err-made : goal.returns-in_err-made
returns-in_err-made c =
    let p = c.args.p in
    let by = c.args.by in
    let e = err_from_is_err_and c.from_residual.result c.from_residual.ensures.1 in
    rw (e.1, e.2)
    (product-stops by.names.pool.now by.names.table.now by.lent.0 by.lent.1.good p.factors.0 c.requires _
    (c.in_err-made.ensures p.factors.0 (record { is = c.value.ensures; good = c.requires })))
