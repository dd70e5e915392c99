use Rattle.std.proofs.lemmas.Result.{err_from_is_err_and}
use Rattle.std.proofs.Common.{sym, subst, arith, ◌∙◌, ◌≤◌}
use Rattle.rules.specs.Base.{bounded}
use Rattle.rules.specs.Trees.{sizeCon}
use Rattle.laws.proofs.Untouched.{con_same}
use Rattle.records.proofs.Cut.{short-con}
use Rattle.types.specs.Written.{Writes}
use Rattle.replace.specs.Well.{names}
use Rattle.replace.proofs.Touches.{con-untouched}
use Rattle.replace.proofs.Walks.{told, leaves}
use Rattle.replace.proofs.Constraints.{
  equal-good,
  has-good,
  is-good,
  scalar-good,
  equal-here,
  left-stop,
  right-stop,
  has-here,
  of-stop,
  asked-stop,
  is-here,
  is-stop,
  scalar-here,
  scalar-stop,
}
use Rattle.replace.proofs.inner.constraints.replace_constraint.Goals as goal

pub returns-then-not-touches : goal.returns-then-not-touches
returns-then-not-touches c =
    let a = c.args in
    let t = a.c.tree in
    let u = con-untouched a.by.lent.0 a.c.words.now t.0 a.c.at c.end.result t.1 c.end.ensures (sym c.if-not-touches.true ∙ c.touches.ensures) in
    let k : sizeCon t.0 ≤ 65_535 = omega arith in
    leaves t.0 (con_same (names a.by.names.pool.now a.by.names.table.now) bounded a.by.lent.0 t.0 u)
    (subst (Writes _ _) (sym (short-con t.0 k)) c.copy_constraint.ensures)

pub replace_type-requires : goal.replace_type-requires
replace_type-requires c =
    (equal-good c.args.by.names.pool.now c.args.by.names.table.now _ _ c.in-Equal.ensures c.requires).0

pub replace_type-requires-in-Equal : goal.replace_type-requires-in-Equal
replace_type-requires-in-Equal c =
    (equal-good c.args.by.names.pool.now c.args.by.names.table.now _ _ c.in-Equal.ensures c.requires).1

pub replace_type-requires-in-IsDimension : goal.replace_type-requires-in-IsDimension
replace_type-requires-in-IsDimension c =
    is-good c.args.by.names.pool.now c.args.by.names.table.now _ c.in-IsDimension.ensures c.requires

pub replace_product-requires : goal.replace_product-requires
replace_product-requires c =
    scalar-good c.args.by.names.pool.now c.args.by.names.table.now _ c.in-IsScalar.ensures c.requires

pub replace_type-requires-in-HasField : goal.replace_type-requires-in-HasField
replace_type-requires-in-HasField c =
    (has-good c.args.by.names.pool.now c.args.by.names.table.now _ _ _ c.in-HasField.ensures c.requires).0

pub replace_type-requires-in-HasField-2 : goal.replace_type-requires-in-HasField-2
replace_type-requires-in-HasField-2 c =
    (has-good c.args.by.names.pool.now c.args.by.names.table.now _ _ _ c.in-HasField.ensures c.requires).1

pub returns-in_err-replace_type-in-Equal : goal.returns-in_err-replace_type-in-Equal
returns-in_err-replace_type-in-Equal c =
    let k = err_from_is_err_and c.from_residual.result c.from_residual.ensures.1 in rw (k.1, k.2)
    (left-stop c.args.by.names.pool.now c.args.by.names.table.now c.args.by.lent.0 c.in-Equal.ensures c.reserve-start.ensures
    (told c.in_err-replace_type-in-Equal.was c.replace_type.ensures))

pub returns-in_err-replace_type-in-Equal-2 : goal.returns-in_err-replace_type-in-Equal-2
returns-in_err-replace_type-in-Equal-2 c =
    let k = err_from_is_err_and c.from_residual-in_err-replace_type-in-Equal-2.result c.from_residual-in_err-replace_type-in-Equal-2.ensures.1 in rw (k.1, k.2)
    (right-stop c.args.by.names.pool.now c.args.by.names.table.now c.args.by.lent.0 c.in-Equal.ensures c.reserve-start.ensures
    (told c.in_ok-replace_type-in-Equal.was c.replace_type.ensures)
    (told c.in_err-replace_type-in-Equal-2.was c.replace_type-in-Equal.ensures))

pub returns-in_ok-replace_type-in-Equal-2 : goal.returns-in_ok-replace_type-in-Equal-2
returns-in_ok-replace_type-in-Equal-2 c =
    equal-here c.args.by.names.pool.now c.args.by.names.table.now c.args.by.lent.0 c.in-Equal.ensures c.reserve-start.ensures
    (told c.in_ok-replace_type-in-Equal.was c.replace_type.ensures)
    (told c.in_ok-replace_type-in-Equal-2.was c.replace_type-in-Equal.ensures) c.begin.ensures

pub returns-in_err-replace_type-in-IsDimension : goal.returns-in_err-replace_type-in-IsDimension
returns-in_err-replace_type-in-IsDimension c =
    let k = err_from_is_err_and c.from_residual-in_err-replace_type-in-IsDimension.result
    c.from_residual-in_err-replace_type-in-IsDimension.ensures.1 in rw (k.1, k.2)
    (is-stop c.args.by.names.pool.now c.args.by.names.table.now c.args.by.lent.0 c.in-IsDimension.ensures c.reserve-start.ensures
    (told c.in_err-replace_type-in-IsDimension.was c.replace_type-in-IsDimension.ensures))

pub returns-in_ok-replace_type-in-IsDimension : goal.returns-in_ok-replace_type-in-IsDimension
returns-in_ok-replace_type-in-IsDimension c =
    is-here c.args.by.names.pool.now c.args.by.names.table.now c.args.by.lent.0 c.in-IsDimension.ensures c.reserve-start.ensures
    (told c.in_ok-replace_type-in-IsDimension.was c.replace_type-in-IsDimension.ensures)
    c.begin-in-IsDimension.ensures

pub returns-in_err-replace_product-in-IsScalar : goal.returns-in_err-replace_product-in-IsScalar
returns-in_err-replace_product-in-IsScalar c =
    let k = err_from_is_err_and c.from_residual-in_err-replace_product-in-IsScalar.result
    c.from_residual-in_err-replace_product-in-IsScalar.ensures.1 in rw (k.1, k.2)
    (scalar-stop c.args.by.names.pool.now c.args.by.names.table.now c.args.by.lent.0 c.in-IsScalar.ensures c.reserve-start.ensures
    (told c.in_err-replace_product-in-IsScalar.was c.replace_product.ensures))

pub returns-in_ok-replace_product-in-IsScalar : goal.returns-in_ok-replace_product-in-IsScalar
returns-in_ok-replace_product-in-IsScalar c =
    scalar-here c.args.by.names.pool.now c.args.by.names.table.now c.args.by.lent.0 c.in-IsScalar.ensures c.reserve-start.ensures
    (told c.in_ok-replace_product-in-IsScalar.was c.replace_product.ensures)
    c.begin-in-IsScalar.ensures

pub returns-in_err-replace_type-in-HasField : goal.returns-in_err-replace_type-in-HasField
returns-in_err-replace_type-in-HasField c =
    let k = err_from_is_err_and c.from_residual-in_err-replace_type-in-HasField.result c.from_residual-in_err-replace_type-in-HasField.ensures.1
    in rw (k.1, k.2)
    (of-stop c.args.by.names.pool.now c.args.by.names.table.now c.args.by.lent.0 c.in-HasField.ensures c.reserve-start.ensures
    (told c.in_err-replace_type-in-HasField.was c.replace_type-in-HasField.ensures))

pub returns-in_err-replace_type-in-HasField-2 : goal.returns-in_err-replace_type-in-HasField-2
returns-in_err-replace_type-in-HasField-2 c =
    let k = err_from_is_err_and c.from_residual-in_err-replace_type-in-HasField-2.result c.from_residual-in_err-replace_type-in-HasField-2.ensures.1
    in rw (k.1, k.2)
    (asked-stop c.args.by.names.pool.now c.args.by.names.table.now c.args.by.lent.0 c.in-HasField.ensures c.reserve-start.ensures
    (told c.in_ok-replace_type-in-HasField.was c.replace_type-in-HasField.ensures)
    (told c.in_err-replace_type-in-HasField-2.was c.replace_type-in-HasField-2.ensures))

pub returns-in_ok-replace_type-in-HasField-2 : goal.returns-in_ok-replace_type-in-HasField-2
returns-in_ok-replace_type-in-HasField-2 c =
    has-here c.args.by.names.pool.now c.args.by.names.table.now c.args.by.lent.0 c.in-HasField.ensures c.reserve-start.ensures
    (told c.in_ok-replace_type-in-HasField.was c.replace_type-in-HasField.ensures)
    (told c.in_ok-replace_type-in-HasField-2.was c.replace_type-in-HasField-2.ensures) c.begin-in-HasField.ensures
