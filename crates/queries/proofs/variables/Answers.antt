-- `variables` meets its contract.
use mathlib.Core.Path.{sym, ◌∙◌}
use native.Mathlib.Omega.{arith}
use Rattle.std.proofs.lemmas.Result.{err_from_is_err_and}
use Rattle.rules.specs.Names.{table_of, names_of}
use Rattle.queries.proofs.Answers.{typed, typed-good, typed-small, typed-held, variables-short, variables-refused, variables-mixed, variables-said}
use Rattle.queries.proofs.variables.Goals as goal

pub returns-then-res-lt-RECORD_WORDS : goal.returns-then-res-lt-RECORD_WORDS
returns-then-res-lt-RECORD_WORDS c = let a = c.args in variables-short _ _ _ a.parameters a.res.now c.if-res-lt-RECORD_WORDS.true

pub is_unmixed-requires : goal.is_unmixed-requires
is_unmixed-requires c =
    let (t, k) = typed _ _ _ (record { word = λ i. (c.type_inv.words i).fits }) (sym c.in_ok-is_type.ensures) in
    typed-small _ _ _ t k

pub invariant_of-names : goal.invariant_of-names
invariant_of-names c =
    let (t, k) = typed _ _ _ (record { word = λ i. (c.type_inv.words i).fits }) (sym c.in_ok-is_type.ensures) in
    record { good = typed-good _ _ _ t k }

pub list_names-requires : goal.list_names-requires
list_names-requires c =
    let (t, k) = typed _ _ _ (record { word = λ i. (c.type_inv.words i).fits }) (sym c.in_ok-is_type.ensures) in
    record { every = typed-held _ _ _ t k c.kind_of.result; room = omega (arith, c.if-res-lt-RECORD_WORDS.false) }

pub returns : goal.returns
returns c =
    let a = c.args in
    let (t, k) = typed a.pool.now a.table.now a.words.now (record { word = λ i. (c.type_inv.words i).fits }) (sym c.in_ok-is_type.ensures) in
    variables-said _ _ _ a.parameters a.res.now t k c.if-res-lt-RECORD_WORDS.false
    (sym (c.is_unmixed.ensures (names_of (table_of a.pool.now a.table.now))) ∙ c.if-not-is_unmixed.false) _ _ (rw c.kind_of.ensures at c.list_names.ensures)

pub returns-then-not-is_unmixed : goal.returns-then-not-is_unmixed
returns-then-not-is_unmixed c =
    let a = c.args in
    let (t, k) = typed a.pool.now a.table.now a.words.now (record { word = λ i. (c.type_inv.words i).fits }) (sym c.in_ok-is_type.ensures) in
    variables-mixed _ _ _ a.parameters a.res.now t k c.if-res-lt-RECORD_WORDS.false
    (sym (c.is_unmixed.ensures (names_of (table_of a.pool.now a.table.now))) ∙ c.if-not-is_unmixed.true)

pub returns-in_err-is_type : goal.returns-in_err-is_type
returns-in_err-is_type c =
    let a = c.args in
    let p = err_from_is_err_and c.from_residual.result c.from_residual.ensures.1 in
    rw (p.1, p.2) (variables-refused _ _ _ a.parameters a.res.now _ c.if-res-lt-RECORD_WORDS.false (sym c.in_err-is_type.ensures))
