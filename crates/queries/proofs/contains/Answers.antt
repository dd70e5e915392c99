-- `contains` meets its contract.
use mathlib.Core.Path.{sym, ap, ◌∙◌}
use Prim.Native.Nat.{◌/◌}
use Rattle.std.proofs.lemmas.Result.{err_from_is_err_and}
use Rattle.rules.specs.Base.{got, any}
use Rattle.rules.specs.Names.{table_of, names_of}
use lib.Dec.{eqb}
use lib.ListN.{length}
use Rattle.queries.specs.Scans.{choose, opensIn}
use Rattle.queries.proofs.Answers.{typed, typed-good, typed-small, contains-refused, contains-unheld, contains-mixed, contains-said}
use Rattle.queries.proofs.contains.Goals as goal

pub invariant_of-names : goal.invariant_of-names
invariant_of-names c =
    let (t, k) = typed _ _ _ (record { word = λ i. (c.type_inv.words i).fits }) (sym c.in_ok-is_type.ensures) in
    record { good = typed-good _ _ _ t k }

pub is_unmixed-requires : goal.is_unmixed-requires
is_unmixed-requires c =
    let (t, k) = typed _ _ _ (record { word = λ i. (c.type_inv.words i).fits }) (sym c.in_ok-is_type.ensures) in
    typed-small _ _ _ t k

pub returns : goal.returns
returns c =
    let a = c.args in
    let ws = a.words.now in
    let (t, k) = typed a.pool.now a.table.now ws (record { word = λ i. (c.type_inv.words i).fits }) (sym c.in_ok-is_type.ensures) in
    ap got (c.occurs.ensures ∙ ap (λ i. any (eqb a.x) (choose i (opensIn ws 0 (length ws / 4)))) c.kind_of.ensures)
    ∙ contains-said _ _ _ a.x a.parameters t k (sym c.if-not-is_held.ensures)
    (sym (c.is_unmixed.ensures (names_of (table_of a.pool.now a.table.now))) ∙ c.if-not-is_unmixed.false)

pub returns-then-not-is_unmixed : goal.returns-then-not-is_unmixed
returns-then-not-is_unmixed c =
    let a = c.args in
    let (t, k) = typed a.pool.now a.table.now a.words.now (record { word = λ i. (c.type_inv.words i).fits }) (sym c.in_ok-is_type.ensures) in
    sym (contains-mixed _ _ _ a.x a.parameters t k (sym c.if-not-is_held.ensures)
    (sym (c.is_unmixed.ensures (names_of (table_of a.pool.now a.table.now))) ∙ c.if-not-is_unmixed.true))

pub returns-then-not-is_held : goal.returns-then-not-is_held
returns-then-not-is_held c =
    let a = c.args in
    let (t, k) = typed a.pool.now a.table.now a.words.now (record { word = λ i. (c.type_inv.words i).fits }) (sym c.in_ok-is_type.ensures) in
    sym (contains-unheld _ _ _ a.x a.parameters t k (sym c.if-not-is_held.ensures))

pub returns-in_err-is_type : goal.returns-in_err-is_type
returns-in_err-is_type c =
    let a = c.args in
    let p = err_from_is_err_and c.from_residual.result c.from_residual.ensures.1 in
    rw (p.1, p.2) (sym (contains-refused _ _ _ a.x a.parameters _ (sym c.in_err-is_type.ensures)))
