-- `closed` meets its contract.
use mathlib.Core.Path.{sym, ap, ◌∙◌}
use Rattle.std.proofs.lemmas.Result.{err_from_is_err_and}
use Rattle.rules.specs.Base.{got}
use Rattle.rules.specs.Names.{table_of, names_of}
use Rattle.queries.proofs.Answers.{typed, typed-small, closed-refused, closed-mixed, closed_said}
use Rattle.queries.proofs.closed.Goals as goal

pub is_unmixed-requires : goal.is_unmixed-requires
is_unmixed-requires c =
    let (t, k) = typed _ _ _ (record { word = λ i. (c.type_inv.words i).fits }) (sym c.in_ok-is_type.ensures) in
    typed-small _ _ _ t k

pub returns : goal.returns
returns c =
    let a = c.args in
    let (t, k) = typed a.pool.now a.table.now a.words.now (record { word = λ i. (c.type_inv.words i).fits }) (sym c.in_ok-is_type.ensures) in
    ap got c.none_open.ensures ∙ closed_said _ _ _ t k (sym (c.is_unmixed.ensures (names_of (table_of a.pool.now a.table.now))) ∙ c.if-not-is_unmixed.false)

pub returns-then-not-is_unmixed : goal.returns-then-not-is_unmixed
returns-then-not-is_unmixed c =
    let a = c.args in
    let (t, k) = typed a.pool.now a.table.now a.words.now (record { word = λ i. (c.type_inv.words i).fits }) (sym c.in_ok-is_type.ensures) in
    sym (closed-mixed _ _ _ t k (sym (c.is_unmixed.ensures (names_of (table_of a.pool.now a.table.now))) ∙ c.if-not-is_unmixed.true))

pub returns-in_err-is_type : goal.returns-in_err-is_type
returns-in_err-is_type c =
    let p = err_from_is_err_and c.from_residual.result c.from_residual.ensures.1 in
    rw (p.1, p.2) (sym (closed-refused _ _ _ _ (sym c.in_err-is_type.ensures)))
