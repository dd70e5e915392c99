-- `GivenBindings::new` meets its contract.
use Rattle.std.proofs.Common.{arith}
use Rattle.std.proofs.lemmas.Result.{err_from_is_err_and}
use Rattle.rules.specs.Calls.{bindingsGiven}
use Rattle.records.specs.Found.{Words32}
use Rattle.types.proofs.GivenLists.{bindings-told, bindings-held}
use Rattle.types.proofs.Tested.{whole, table-is, comes-to, not-passed, is-given, is-known}
use Rattle.types.proofs.GivenBindings.new.Goals as goal

pub returns-in_err-passed-clause-answer : goal.returns-in_err-passed-clause-answer
returns-in_err-passed-clause-answer c =
    let word : Words32 c.args.words.now = record { word = λ i. (c.type_inv.words i).fits } in
    let p = err_from_is_err_and c.from_residual-in_err-passed.result c.from_residual-in_err-passed.ensures.1 in
    rw (p.1, p.2) (not-passed _ bindingsGiven c.args.names _ c.in_ok-names.ensures _ (bindings-told _ _ _ word _ c.all.ensures) c.in_err-passed.ensures)

pub invariant_of-all : goal.invariant_of-all
invariant_of-all c =
    let word : Words32 c.args.words.now = record { word = λ i. (c.type_inv.words i).fits } in
    let t = table-is _ bindingsGiven c.args.names c.in_ok-names.names c.in_ok-names.ensures in
    let h = bindings-held _ _ _ word _ c.all.ensures t.0 (whole _ _ c.in_ok-passed.ensures) in
    record { near = omega (arith, t.0); trees = h.its }

pub invariant_of-result : goal.invariant_of-result
invariant_of-result c =
    let word : Words32 c.args.words.now = record { word = λ i. (c.type_inv.words i).fits } in
    let t = table-is _ bindingsGiven c.args.names c.in_ok-names.names c.in_ok-names.ensures in
    record { fine = is-known _ _ _ (bindings-held _ _ _ word _ c.all.ensures t.0 (whole _ _ c.in_ok-passed.ensures)) _ (search) }

pub returns-clause-answer : goal.returns-clause-answer
returns-clause-answer c =
    let word : Words32 c.args.words.now = record { word = λ i. (c.type_inv.words i).fits } in
    let t = table-is _ bindingsGiven c.args.names c.in_ok-names.names c.in_ok-names.ensures in
    comes-to _ bindingsGiven c.args.names _ c.in_ok-names.ensures
    (is-given _ _ _ (bindings-held _ _ _ word _ c.all.ensures t.0 (whole _ _ c.in_ok-passed.ensures)) _ (search))
