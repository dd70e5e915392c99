-- `GivenType::new` meets its contract.
use Rattle.std.proofs.Common.{arith}
use Rattle.std.proofs.lemmas.Result.{err_from_is_err_and}
use Rattle.rules.specs.Calls.{typeGiven}
use Rattle.records.specs.Found.{Words32}
use Rattle.types.proofs.GivenLists.{type-told, type-held}
use Rattle.types.proofs.Tested.{whole, table-is, comes-to, not-passed, is-given, is-known}
use Rattle.types.proofs.GivenType.new.Goals as goal

pub returns-in_err-passed-clause-answer : goal.returns-in_err-passed-clause-answer
returns-in_err-passed-clause-answer c =
    let word : Words32 c.args.words.now = record { word = λ i. (c.type_inv.words i).fits } in
    let p = err_from_is_err_and c.from_residual-in_err-passed.result c.from_residual-in_err-passed.ensures.1 in
    rw (p.1, p.2) (not-passed _ typeGiven c.args.names _ c.in_ok-names.ensures _ (type-told _ _ _ word _ c.is_type.ensures) c.in_err-passed.ensures)

pub invariant_of-whole : goal.invariant_of-whole
invariant_of-whole c =
    let word : Words32 c.args.words.now = record { word = λ i. (c.type_inv.words i).fits } in
    let t = table-is _ typeGiven c.args.names c.in_ok-names.names c.in_ok-names.ensures in
    let h = type-held _ _ _ word _ c.is_type.ensures (whole _ _ c.in_ok-passed.ensures) in
    record { near = omega (arith, t.0); tree = h.its }

pub invariant_of-result : goal.invariant_of-result
invariant_of-result c =
    let word : Words32 c.args.words.now = record { word = λ i. (c.type_inv.words i).fits } in
    record { good = is-known _ _ _ (type-held _ _ _ word _ c.is_type.ensures (whole _ _ c.in_ok-passed.ensures)) _ (search) }

pub returns-clause-answer : goal.returns-clause-answer
returns-clause-answer c =
    let word : Words32 c.args.words.now = record { word = λ i. (c.type_inv.words i).fits } in
    comes-to _ typeGiven c.args.names _ c.in_ok-names.ensures
    (is-given _ _ _ (type-held _ _ _ word _ c.is_type.ensures (whole _ _ c.in_ok-passed.ensures)) _ (search))
