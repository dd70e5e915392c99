-- `is_type` meets its contract.
use Rattle.std.proofs.lemmas.Result.{err_from_is_err_and}
use Rattle.rules.specs.Calls.{typeCall}
use Rattle.records.specs.Found.{Words32}
use Rattle.records.proofs.Whole.{entry-good, type-told}
use mathlib.Core.Path.{refl, sym, ◌∙◌}
use Rattle.records.proofs.is_type.Goals as goal

pub invariant_of-names : goal.invariant_of-names
invariant_of-names c = let a = c.args in record { good = entry-good a.pool.now a.table.now a.words.now (sym c.in_ok-entry.ensures) }

pub returns : goal.returns
returns c =
    let a = c.args in
    let words : Words32 a.words.now = record { word = λ i. (c.type_inv.words i).fits } in
    c.listed.ensures ∙ sym (type-told a.pool.now a.table.now a.words.now (sym c.in_ok-entry.ensures) words c.is_type.result c.is_type.ensures)

pub returns-in_err-entry : goal.returns-in_err-entry
unfolding typeCall
returns-in_err-entry c =
    let p = err_from_is_err_and c.from_residual.result c.from_residual.ensures.1 in
    rw (p.1, p.2, ← c.in_err-entry.ensures) refl
