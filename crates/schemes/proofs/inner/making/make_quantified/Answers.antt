-- `inner::making::make_quantified` meets its contract.
use Rattle.std.proofs.lemmas.Result.{err_from_is_err_and}
use Rattle.records.specs.Found.{Words32}
use Rattle.types.proofs.Tested.{kept}
use Rattle.schemes.proofs.Called.{called-long, untested}
use Rattle.schemes.proofs.Rows.{first-refused, bounds-refused, numbers-refused, mixed-refused, met}
use Rattle.schemes.proofs.Schemes.{are-apart, type-given, type-small, type-apart}
use Rattle.schemes.proofs.Whole.{quantify-row, quantify-met, handed-sound, given-good, given-sound}
use Rattle.schemes.proofs.inner.making.make_quantified.Goals as goal

pub returns-in_err-check_lengths : goal.returns-in_err-check_lengths
returns-in_err-check_lengths c =
    let p = err_from_is_err_and c.from_residual.result c.from_residual.ensures.1 in
    rw (p.1, p.2) (called-long _ _ _ (λ t. (quantify-row t _ _ _).is) _ _ c.in_err-check_lengths.ensures)

pub returns-in_err-names : goal.returns-in_err-names
returns-in_err-names c =
    let p = err_from_is_err_and c.from_residual-in_err-names.result c.from_residual-in_err-names.ensures.1 in
    rw (p.1, p.2) (untested _ _ _ c.in_err-names.was c.in_ok-check_lengths.ensures)

pub returns-in_err-given : goal.returns-in_err-given
returns-in_err-given c =
    let p = err_from_is_err_and c.from_residual-in_err-given.result c.from_residual-in_err-given.ensures.1 in
    rw (p.1, p.2, c.in_ok-names.was)
    (first-refused (quantify-row _ _ _ _) c.in_ok-check_lengths.ensures (kept c.in_ok-names.names) _ c.in_err-given.ensures.answer)

pub returns-in_err-bounds : goal.returns-in_err-bounds
returns-in_err-bounds c =
    let p = err_from_is_err_and c.from_residual-in_err-bounds.result c.from_residual-in_err-bounds.ensures.1 in
    rw (p.1, p.2, c.in_ok-names.was)
    (bounds-refused (quantify-row _ _ _ _) c.in_ok-check_lengths.ensures (kept c.in_ok-names.names) c.in_ok-given.ensures.answer _ c.in_err-bounds.ensures)

pub returns-in_err-handed : goal.returns-in_err-handed
returns-in_err-handed c =
    let p = err_from_is_err_and c.from_residual-in_err-handed.result c.from_residual-in_err-handed.ensures.1 in
    rw (p.1, p.2, c.in_ok-names.was)
    (numbers-refused (quantify-row _ _ _ _) c.in_ok-check_lengths.ensures (kept c.in_ok-names.names) c.in_ok-given.ensures.answer c.in_ok-bounds.ensures _
    c.in_err-handed.ensures.answer)

pub check_unmixed-requires : goal.check_unmixed-requires
check_unmixed-requires c =
    type-small c.in_ok-names.names _ _ _ c.in_ok-check_lengths.ensures (record { word = λ i. (c.type_inv.words i).fits }) c.in_ok-given.ensures.answer

pub returns-in_err-check_unmixed : goal.returns-in_err-check_unmixed
returns-in_err-check_unmixed c =
    let n = c.in_ok-names.names in
    let short = c.in_ok-check_lengths.ensures in
    let p = err_from_is_err_and c.from_residual-in_err-check_unmixed.result c.from_residual-in_err-check_unmixed.ensures.1 in
    rw (p.1, p.2, c.in_ok-names.was)
    (mixed-refused (quantify-row _ _ _ _) short (kept n) c.in_ok-given.ensures.answer c.in_ok-bounds.ensures c.in_ok-handed.ensures.answer _
    (type-apart n _ _ _ short (record { word = λ i. (c.type_inv.words i).fits }) c.in_ok-given.ensures.answer (c.in_err-check_unmixed.ensures _)))

pub quantify_at-requires-clause-sound : goal.quantify_at-requires-clause-sound
quantify_at-requires-clause-sound c =
    let n = c.in_ok-names.names in
    let word : Words32 c.args.words.now = record { word = λ i. (c.type_inv.words i).fits } in
    handed-sound c.in_ok-handed.handed c.in_ok-given.given.whole.tree.0 c.in_ok-bounds.bounds.listed.0 c.in_ok-handed.ensures.same
    (given-sound n.pool.now n.table.now _ word _ (type-given n _ _ _ c.in_ok-check_lengths.ensures word c.in_ok-given.ensures.answer))

pub returns : goal.returns
returns c =
    let n = c.in_ok-names.names in
    let short = c.in_ok-check_lengths.ensures in
    let word : Words32 c.args.words.now = record { word = λ i. (c.type_inv.words i).fits } in
    let apart = type-apart n _ _ _ short word c.in_ok-given.ensures.answer (c.in_ok-check_unmixed.ensures _) in
    rw c.in_ok-names.was
    (met (quantify-row _ _ _ _) short (kept n) c.in_ok-given.ensures.answer c.in_ok-bounds.ensures c.in_ok-handed.ensures.answer apart
    (quantify-met c.in_ok-handed.handed _ _ c.in_ok-handed.ensures.same
    (given-good n.pool.now n.table.now _ word _ (type-given n _ _ _ short word c.in_ok-given.ensures.answer)) (are-apart _ _ apart) c.quantify_at.ensures))
