-- `replace_type` and `replace_list` call one another: the number of records left falls.
use Rattle.std.proofs.Common.{arith, ap}
use Rattle.std.proofs.lemmas.Result.{err_from_is_err_and}
use Rattle.records.proofs.ByView.{size-pos}
use Rattle.records.specs.Holds.{openOf}
use Rattle.types.proofs.Puts.{sizes}
use Rattle.replace.proofs.Leaves.{sizeParts}
use Rattle.replace.proofs.Walks.{
  told,
  sizes-fields,
  sizes-function,
  sizes-struct,
  sizes-list,
  fn-good,
  struct-good,
  list-good,
  dim-good,
  cons-good,
  field-good,
  becomes-short,
  open-here,
  basic-here,
  list-here,
  list-stop,
  function-here,
  function-stop,
  return-stop,
  struct-here,
  struct-stop,
  fields-stop,
  none-here,
  some-here,
  first-stop,
  no-fields,
  field-here,
  field-stop,
}
use Rattle.replace.proofs.inner.walk.+replace.Goals as goal

pub replace_type-replace_dimension-requires-clause-good : goal.replace_type-replace_dimension-requires-clause-good
replace_type-replace_dimension-requires-clause-good t c =
    dim-good c.args.by.names.pool.now c.args.by.names.table.now _ c.in-Dimension.ensures c.requires

pub replace_type-returns-in-Open : goal.replace_type-returns-in-Open
replace_type-returns-in-Open t c =
    let i = c.in-Open in let l = c.args.by.lent in
    open-here c.args.by.names.pool.now c.args.by.names.table.now c.args.by.lent.0 i.ensures
    (becomes-short l.0 (openOf i.o) (l.1.tabled.few (openOf i.o))) c.replace_open.ensures

pub replace_type-returns-in-Basic : goal.replace_type-returns-in-Basic
replace_type-returns-in-Basic t c =
    basic-here c.args.by.names.pool.now c.args.by.names.table.now c.args.by.lent.0 c.in-Basic.ensures c.copy.ensures

pub replace_type-replace_list-requires : goal.replace_type-replace_list-requires
replace_type-replace_list-requires t c =
    let i = c.in-Function in (
      omega (arith, c.decreases, sizes-function _ _ _ i.ensures, size-pos i.to.tree.0),
      (fn-good c.args.by.names.pool.now c.args.by.names.table.now _ _ i.ensures c.requires).0,
    )

pub replace_type-returns-in_err-replace_list-in-Function : goal.replace_type-returns-in_err-replace_list-in-Function
replace_type-returns-in_err-replace_list-in-Function t c =
    let k = err_from_is_err_and c.from_residual.result c.from_residual.ensures.1 in rw (k.1, k.2)
    (function-stop c.args.by.names.pool.now c.args.by.names.table.now c.args.by.lent.0 c.in-Function.ensures c.reserve-start.ensures
    (told c.in_err-replace_list-in-Function.was c.replace_list.ensures))

pub replace_type-replace_type-requires : goal.replace_type-replace_type-requires
replace_type-replace_type-requires t c =
    let i = c.in-Function in (
      omega (arith, c.decreases, sizes-function _ _ _ i.ensures),
      (fn-good c.args.by.names.pool.now c.args.by.names.table.now _ _ i.ensures c.requires).1,
    )

pub replace_type-returns-in_err-replace_type-in-Function : goal.replace_type-returns-in_err-replace_type-in-Function
replace_type-returns-in_err-replace_type-in-Function t c =
    let k = err_from_is_err_and c.from_residual-in_err-replace_type-in-Function.result c.from_residual-in_err-replace_type-in-Function.ensures.1
    in rw (k.1, k.2)
    (return-stop c.args.by.names.pool.now c.args.by.names.table.now c.args.by.lent.0 c.in-Function.ensures c.reserve-start.ensures
    (told c.in_ok-replace_list-in-Function.was c.replace_list.ensures)
    (told c.in_err-replace_type-in-Function.was c.replace_type.ensures))

pub replace_type-returns-in_ok-replace_type-in-Function : goal.replace_type-returns-in_ok-replace_type-in-Function
replace_type-returns-in_ok-replace_type-in-Function t c =
    let i = c.in-Function in
    function-here c.args.by.names.pool.now c.args.by.names.table.now c.args.by.lent.0 i.ensures i.parameters.trees.1.many c.reserve-start.ensures
    (told c.in_ok-replace_list-in-Function.was c.replace_list.ensures)
    (told c.in_ok-replace_type-in-Function.was c.replace_type.ensures) c.begin.ensures

pub replace_type-replace_list-requires-in-Struct : goal.replace_type-replace_list-requires-in-Struct
replace_type-replace_list-requires-in-Struct t c =
    let i = c.in-Struct in (
      omega (arith, c.decreases, sizes-struct _ _ _ _ i.ensures),
      (struct-good c.args.by.names.pool.now c.args.by.names.table.now _ _ _ i.ensures c.requires).0,
    )

pub replace_type-returns-in_err-replace_list-in-Struct : goal.replace_type-returns-in_err-replace_list-in-Struct
replace_type-returns-in_err-replace_list-in-Struct t c =
    let k = err_from_is_err_and c.from_residual-in_err-replace_list-in-Struct.result c.from_residual-in_err-replace_list-in-Struct.ensures.1 in rw (k.1, k.2)
    (struct-stop c.args.by.names.pool.now c.args.by.names.table.now c.args.by.lent.0 c.in-Struct.ensures c.reserve-start-in-Struct.ensures
    (told c.in_err-replace_list-in-Struct.was c.replace_list-in-Struct.ensures))

pub replace_type-replace_list-requires-in-Struct-2 : goal.replace_type-replace_list-requires-in-Struct-2
replace_type-replace_list-requires-in-Struct-2 t c =
    let i = c.in-Struct in (
      omega (arith, c.decreases, sizes-struct _ _ _ _ i.ensures),
      (struct-good c.args.by.names.pool.now c.args.by.names.table.now _ _ _ i.ensures c.requires).1,
    )

pub replace_type-returns-in_err-replace_list-in-Struct-2 : goal.replace_type-returns-in_err-replace_list-in-Struct-2
replace_type-returns-in_err-replace_list-in-Struct-2 t c =
    let k = err_from_is_err_and c.from_residual-in_err-replace_list-in-Struct-2.result c.from_residual-in_err-replace_list-in-Struct-2.ensures.1
    in rw (k.1, k.2)
    (fields-stop c.args.by.names.pool.now c.args.by.names.table.now c.args.by.lent.0 c.in-Struct.ensures c.reserve-start-in-Struct.ensures
    (told c.in_ok-replace_list-in-Struct.was c.replace_list-in-Struct.ensures)
    (told c.in_err-replace_list-in-Struct-2.was c.replace_list-in-Struct-2.ensures))

pub replace_type-returns-in_ok-replace_list-in-Struct-2 : goal.replace_type-returns-in_ok-replace_list-in-Struct-2
replace_type-returns-in_ok-replace_list-in-Struct-2 t c =
    let i = c.in-Struct in
    struct-here c.args.by.names.pool.now c.args.by.names.table.now c.args.by.lent.0 i.ensures i.arguments.trees.1.many i.fields.trees.1.many
    c.reserve-start-in-Struct.ensures
    (told c.in_ok-replace_list-in-Struct.was c.replace_list-in-Struct.ensures)
    (told c.in_ok-replace_list-in-Struct-2.was c.replace_list-in-Struct-2.ensures) c.begin-in-Struct.ensures

pub replace_type-replace_type-requires-in-List : goal.replace_type-replace_type-requires-in-List
replace_type-replace_type-requires-in-List t c =
    let i = c.in-List in (
      omega (arith, c.decreases, sizes-list _ _ i.ensures),
      list-good c.args.by.names.pool.now c.args.by.names.table.now _ i.ensures c.requires,
    )

pub replace_type-returns-in_err-replace_type-in-List : goal.replace_type-returns-in_err-replace_type-in-List
replace_type-returns-in_err-replace_type-in-List t c =
    let k = err_from_is_err_and c.from_residual-in_err-replace_type-in-List.result c.from_residual-in_err-replace_type-in-List.ensures.1 in rw (k.1, k.2)
    (list-stop c.args.by.names.pool.now c.args.by.names.table.now c.args.by.lent.0 c.in-List.ensures c.reserve-start-in-List.ensures
    (told c.in_err-replace_type-in-List.was c.replace_type-in-List.ensures))

pub replace_type-returns-in_ok-replace_type-in-List : goal.replace_type-returns-in_ok-replace_type-in-List
replace_type-returns-in_ok-replace_type-in-List t c =
    list-here c.args.by.names.pool.now c.args.by.names.table.now c.args.by.lent.0 c.in-List.ensures c.reserve-start-in-List.ensures
    (told c.in_ok-replace_type-in-List.was c.replace_type-in-List.ensures) c.begin-in-List.ensures

pub replace_list-returns-in_default : goal.replace_list-returns-in_default
replace_list-returns-in_default t c = rw c.in-Types.is (none-here c.args.by.names.pool.now c.args.by.names.table.now c.args.by.lent.0 c.in_default.ensures)

pub replace_list-replace_type-requires : goal.replace_list-replace_type-requires
replace_list-replace_type-requires t c =
    let i = c.in-Some in (
      omega (arith, c.decreases, ap sizeParts c.in-Types.is, sizes _ _ _ i.ensures),
      (cons-good c.args.by.names.pool.now c.args.by.names.table.now _ _ i.ensures (rw c.in-Types.is at c.requires)).0,
    )

pub replace_list-replace_list-requires : goal.replace_list-replace_list-requires
replace_list-replace_list-requires t c =
    let i = c.in-Some in (
      omega (arith, c.decreases, ap sizeParts c.in-Types.is, sizes _ _ _ i.ensures, size-pos i.first.tree.0),
      (cons-good c.args.by.names.pool.now c.args.by.names.table.now _ _ i.ensures (rw c.in-Types.is at c.requires)).1,
    )

pub replace_list-returns-in_err-replace_type-in-Types : goal.replace_list-returns-in_err-replace_type-in-Types
replace_list-returns-in_err-replace_type-in-Types t c =
    let k = err_from_is_err_and c.from_residual.result c.from_residual.ensures.1 in rw (k.1, k.2, c.in-Types.is)
    (first-stop c.args.by.names.pool.now c.args.by.names.table.now c.args.by.lent.0 c.in-Some.ensures
    (told c.in_err-replace_type-in-Types.was c.replace_type.ensures))

pub replace_list-returns-in_ok-replace_type-in-Types : goal.replace_list-returns-in_ok-replace_type-in-Types
replace_list-returns-in_ok-replace_type-in-Types t c =
    rw c.in-Types.is (some-here c.args.by.names.pool.now c.args.by.names.table.now c.args.by.lent.0 c.in-Some.ensures
    (told c.in_ok-replace_type-in-Types.was c.replace_type.ensures) c.replace_list.ensures)

pub replace_list-returns-in_default-split_first : goal.replace_list-returns-in_default-split_first
replace_list-returns-in_default-split_first t c = rw c.in-Fields.is
    (no-fields c.args.by.names.pool.now c.args.by.names.table.now c.args.by.lent.0 c.in_default-split_first.ensures)

pub replace_list-replace_type-requires-in-Fields : goal.replace_list-replace_type-requires-in-Fields
replace_list-replace_type-requires-in-Fields t c =
    let i = c.in-Some-split_first in (
      omega (arith, c.decreases, ap sizeParts c.in-Fields.is, sizes-fields _ _ _ _ i.ensures),
      (field-good c.args.by.names.pool.now c.args.by.names.table.now _ _ _ i.ensures (rw c.in-Fields.is at c.requires)).0,
    )

pub replace_list-replace_list-requires-in-Fields : goal.replace_list-replace_list-requires-in-Fields
replace_list-replace_list-requires-in-Fields t c =
    let i = c.in-Some-split_first in (
      omega (arith, c.decreases, ap sizeParts c.in-Fields.is, sizes-fields _ _ _ _ i.ensures, size-pos i.first.tree.0),
      (field-good c.args.by.names.pool.now c.args.by.names.table.now _ _ _ i.ensures (rw c.in-Fields.is at c.requires)).1,
    )

pub replace_list-returns-in_err-replace_type-in-Fields : goal.replace_list-returns-in_err-replace_type-in-Fields
replace_list-returns-in_err-replace_type-in-Fields t c =
    let k = err_from_is_err_and c.from_residual-in_err-replace_type-in-Fields.result c.from_residual-in_err-replace_type-in-Fields.ensures.1
    in rw (k.1, k.2, c.in-Fields.is)
    (field-stop c.args.by.names.pool.now c.args.by.names.table.now c.args.by.lent.0 c.in-Some-split_first.ensures c.reserve-start.ensures
    (told c.in_err-replace_type-in-Fields.was c.replace_type-in-Fields.ensures))

pub replace_list-returns-in_ok-replace_type-in-Fields : goal.replace_list-returns-in_ok-replace_type-in-Fields
replace_list-returns-in_ok-replace_type-in-Fields t c =
    rw c.in-Fields.is (field-here c.args.by.names.pool.now c.args.by.names.table.now c.args.by.lent.0 c.in-Some-split_first.ensures
    c.reserve-start.ensures (told c.in_ok-replace_type-in-Fields.was c.replace_type-in-Fields.ensures) c.begin.ensures
    c.replace_list-in-Fields.ensures)
