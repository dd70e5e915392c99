-- `Bounds::new` meets its contract.
use Rattle.std.specs.Prelude.{Ok}
use Rattle.std.proofs.lemmas.Result.{err_from_is_err_and}
use Rattle.rules.specs.Calls.{boundsGiven}
use Rattle.records.specs.Found.{Words32}
use Rattle.types.proofs.Tested.{whole, comes-to, not-passed, is-given}
use Rattle.schemes_handed.proofs.Tested.{over-short, bounds-told, bounds-held}
use Rattle.schemes_handed.proofs.Bounds.new.Goals as goal

pub invariant_of-result : goal.invariant_of-result
invariant_of-result c =
    let word : Words32 c.args.words.now = record { word = λ i. (c.type_inv.words i).fits } in
    record { listed = (bounds-held _ _ _ word _ c.bounds_good.ensures (whole _ _ c.in_ok-passed.ensures)).its }

pub returns : goal.returns
returns c =
    let word : Words32 c.args.words.now = record { word = λ i. (c.type_inv.words i).fits } in
    comes-to _ boundsGiven (Ok c.args.names) _ (over-short _ _ c.in_ok-short.ensures)
    (is-given _ _ _ (bounds-held _ _ _ word _ c.bounds_good.ensures (whole _ _ c.in_ok-passed.ensures)) _ (search))

pub returns-in_err-passed : goal.returns-in_err-passed
returns-in_err-passed c =
    let word : Words32 c.args.words.now = record { word = λ i. (c.type_inv.words i).fits } in
    let p = err_from_is_err_and c.from_residual-in_err-passed.result c.from_residual-in_err-passed.ensures.1 in
    rw (p.1, p.2)
    (not-passed _ boundsGiven (Ok c.args.names) _ (over-short _ _ c.in_ok-short.ensures) _ (bounds-told _ _ _ word _ c.bounds_good.ensures)
    c.in_err-passed.ensures)
