-- `inner::make_set` meets its contract.
use Rattle.std.specs.Prelude.{◌≡◌, true}
use Rattle.std.proofs.Common.{subst}
use Rattle.std.proofs.lemmas.Result.{err_from_is_err_and}
use Rattle.rules.specs.Base.{all, collect}
use Rattle.rules.specs.Calls.{setGiven, bindingsGiven, replacedSet}
use Rattle.rules.specs.Names.{table_of, names_of}
use Rattle.rules.specs.Trees.{opensCon}
use Rattle.names.specs.declared.tables.NameTable.{NameTable}
use Rattle.records.specs.Found.{Words32}
use Rattle.records.specs.Good.{goodCon}
use Rattle.types.specs.Given.{constraints_in}
use Rattle.types.proofs.Tested.{given, same_table}
use Rattle.records_buffers.proofs.Handed.{made-refused, made-as}
use Rattle.replace_calls.specs.Made.{madeSet}
use Rattle.replace_calls.proofs.Checks.{second-too-long, first-stops, second-stops}
use Rattle.replace_calls.proofs.Whole.{made-apart, set-opened, set-both}
use Rattle.replace_calls.proofs.inner.make_set.Goals as goal

pub returns-in_err-short : goal.returns-in_err-short
unfolding replacedSet
returns-in_err-short c =
    let p = err_from_is_err_and c.from_residual.result c.from_residual.ensures.1 in
    rw (p.1, p.2) (made-refused _ (second-too-long setGiven (collect opensCon) madeSet _ _ c.args.names _ c.in_err-short.ensures))

pub returns-in_err-given : goal.returns-in_err-given
unfolding replacedSet
returns-in_err-given c =
    let p = err_from_is_err_and c.from_residual-in_err-given.result c.from_residual-in_err-given.ensures.1 in
    rw (p.1, p.2) (made-refused _ (first-stops setGiven (collect opensCon) madeSet _ _ c.args.names c.in_ok-short.ensures _ c.in_err-given.ensures.answer))

pub returns-in_err-bindings : goal.returns-in_err-bindings
unfolding replacedSet
returns-in_err-bindings c =
    let g = c.in_ok-given.ensures in
    let p = err_from_is_err_and c.from_residual-in_err-bindings.result c.from_residual-in_err-bindings.ensures.1 in
    rw (p.1, p.2)
    (made-refused _ (second-stops setGiven (collect opensCon) madeSet _ _ c.args.names _ g.same _ g.answer c.in_ok-short.ensures _
    c.in_err-bindings.ensures.answer))

pub check_apart-requires : goal.check_apart-requires
check_apart-requires c =
    let word : Words32 c.args.words.now = record { word = λ i. (c.type_inv.words i).fits } in
    let binds-word : Words32 c.args.binds.now = record { word = λ i. (c.type_inv.binds i).fits } in
    let g = c.in_ok-given.ensures.answer in
    let b = c.in_ok-bindings.ensures in
    set-both c.in_ok-bindings.bindings.names _ _ word binds-word _
    (given _ bindingsGiven c.args.names _ b.same _ b.answer).1 _ (given _ setGiven c.args.names _ b.same _ g).1

pub returns-in_err-check_apart : goal.returns-in_err-check_apart
unfolding replacedSet
returns-in_err-check_apart c =
    let word : Words32 c.args.words.now = record { word = λ i. (c.type_inv.words i).fits } in
    let binds-word : Words32 c.args.binds.now = record { word = λ i. (c.type_inv.binds i).fits } in
    let n = c.in_ok-bindings.bindings.names in
    let p = err_from_is_err_and c.from_residual-in_err-check_apart.result c.from_residual-in_err-check_apart.ensures.1 in
    rw (p.1, p.2)
    (made-refused _ (made-apart setGiven (collect opensCon) madeSet set-opened c.in_ok-bindings.ensures.same word binds-word c.in_ok-given.ensures.answer
    c.in_ok-bindings.ensures.answer _ (c.in_err-check_apart.ensures (names_of (table_of n.pool.now n.table.now)))))

pub set_into-requires : goal.set_into-requires
set_into-requires c =
    let g = c.in_ok-given.given in
    let z = same_table c.in_ok-given.ensures.same c.in_ok-bindings.ensures.same in
    record { good = subst (λ (n : NameTable). all (goodCon n.pool.now n.table.now 0) (constraints_in g) ≡ true) z g.fine.good; room = c.requires }

pub returns : goal.returns
unfolding replacedSet
returns c =
    let word : Words32 c.args.words.now = record { word = λ i. (c.type_inv.words i).fits } in
    let binds-word : Words32 c.args.binds.now = record { word = λ i. (c.type_inv.binds i).fits } in
    let n = c.in_ok-bindings.bindings.names in
    made-as (made-apart setGiven (collect opensCon) madeSet set-opened c.in_ok-bindings.ensures.same word binds-word c.in_ok-given.ensures.answer
    c.in_ok-bindings.ensures.answer _ (c.in_ok-check_apart.ensures (names_of (table_of n.pool.now n.table.now)))) c.set_into.ensures
