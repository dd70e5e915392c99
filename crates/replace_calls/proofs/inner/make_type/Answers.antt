-- `inner::make_type` meets its contract.
use Rattle.std.specs.Prelude.{◌≡◌, true}
use Rattle.std.proofs.Common.{subst}
use Rattle.std.proofs.lemmas.Result.{err_from_is_err_and}
use Rattle.rules.specs.Calls.{typeGiven, bindingsGiven, replacedType}
use Rattle.rules.specs.Names.{table_of, names_of}
use Rattle.rules.specs.Trees.{opens}
use Rattle.names.specs.declared.tables.NameTable.{NameTable}
use Rattle.records.specs.Found.{Words32}
use Rattle.records.specs.Good.{goodTy}
use Rattle.types.specs.Given.{type_in}
use Rattle.types.proofs.Tested.{given, same_table}
use Rattle.records_buffers.proofs.Handed.{made-refused, made-as}
use Rattle.replace_calls.specs.Made.{madeType}
use Rattle.replace_calls.proofs.Checks.{second-too-long, first-stops, second-stops}
use Rattle.replace_calls.proofs.Whole.{made-apart, type-opened, type-both}
use Rattle.replace_calls.proofs.inner.make_type.Goals as goal

pub returns-in_err-short : goal.returns-in_err-short
unfolding replacedType
returns-in_err-short c =
    let p = err_from_is_err_and c.from_residual.result c.from_residual.ensures.1 in
    rw (p.1, p.2) (made-refused _ (second-too-long typeGiven opens madeType _ _ c.args.names _ c.in_err-short.ensures))

pub returns-in_err-given : goal.returns-in_err-given
unfolding replacedType
returns-in_err-given c =
    let p = err_from_is_err_and c.from_residual-in_err-given.result c.from_residual-in_err-given.ensures.1 in
    rw (p.1, p.2) (made-refused _ (first-stops typeGiven opens madeType _ _ c.args.names c.in_ok-short.ensures _ c.in_err-given.ensures.answer))

pub returns-in_err-bindings : goal.returns-in_err-bindings
unfolding replacedType
returns-in_err-bindings c =
    let g = c.in_ok-given.ensures in
    let p = err_from_is_err_and c.from_residual-in_err-bindings.result c.from_residual-in_err-bindings.ensures.1 in
    rw (p.1, p.2)
    (made-refused _ (second-stops typeGiven opens madeType _ _ c.args.names _ g.same _ g.answer c.in_ok-short.ensures _ c.in_err-bindings.ensures.answer))

pub check_apart-requires : goal.check_apart-requires
check_apart-requires c =
    let word : Words32 c.args.words.now = record { word = λ i. (c.type_inv.words i).fits } in
    let binds-word : Words32 c.args.binds.now = record { word = λ i. (c.type_inv.binds i).fits } in
    let g = c.in_ok-given.ensures.answer in
    let b = c.in_ok-bindings.ensures in
    type-both c.in_ok-bindings.bindings.names _ _ word binds-word _
    (given _ bindingsGiven c.args.names _ b.same _ b.answer).1 _ (given _ typeGiven c.args.names _ b.same _ g).1

pub returns-in_err-check_apart : goal.returns-in_err-check_apart
unfolding replacedType
returns-in_err-check_apart c =
    let word : Words32 c.args.words.now = record { word = λ i. (c.type_inv.words i).fits } in
    let binds-word : Words32 c.args.binds.now = record { word = λ i. (c.type_inv.binds i).fits } in
    let n = c.in_ok-bindings.bindings.names in
    let p = err_from_is_err_and c.from_residual-in_err-check_apart.result c.from_residual-in_err-check_apart.ensures.1 in
    rw (p.1, p.2)
    (made-refused _ (made-apart typeGiven opens madeType type-opened c.in_ok-bindings.ensures.same word binds-word c.in_ok-given.ensures.answer
    c.in_ok-bindings.ensures.answer _ (c.in_err-check_apart.ensures (names_of (table_of n.pool.now n.table.now)))))

pub type_into-requires : goal.type_into-requires
type_into-requires c =
    let g = c.in_ok-given.given in
    let z = same_table c.in_ok-given.ensures.same c.in_ok-bindings.ensures.same in
    record { good = subst (λ (n : NameTable). goodTy n.pool.now n.table.now 0 (type_in g) ≡ true) z g.good; room = c.requires }

pub returns : goal.returns
unfolding replacedType
returns c =
    let word : Words32 c.args.words.now = record { word = λ i. (c.type_inv.words i).fits } in
    let binds-word : Words32 c.args.binds.now = record { word = λ i. (c.type_inv.binds i).fits } in
    let n = c.in_ok-bindings.bindings.names in
    made-as (made-apart typeGiven opens madeType type-opened c.in_ok-bindings.ensures.same word binds-word c.in_ok-given.ensures.answer
    c.in_ok-bindings.ensures.answer _ (c.in_ok-check_apart.ensures (names_of (table_of n.pool.now n.table.now)))) c.type_into.ensures
