-- `inner::instantiated::make_instantiated` meets its contract.
use Rattle.std.proofs.lemmas.Result.{err_from_is_err_and}
use Rattle.records.specs.Found.{Words32}
use Rattle.types.proofs.Tested.{kept}
use Rattle.schemes.proofs.Called.{called-long, untested}
use Rattle.schemes.proofs.Instantiated.{instantiate-row, instantiate-ready, instantiate-met, given-over}
use Rattle.schemes.proofs.Rows.{words-short, no-bounds, first-refused, numbers-refused, mixed-refused, met}
use Rattle.schemes.proofs.Schemes.{scheme-given, scheme-small, scheme-apart}
use Rattle.schemes.proofs.inner.instantiated.make_instantiated.Goals as goal

pub returns-in_err-check_lengths : goal.returns-in_err-check_lengths
returns-in_err-check_lengths c =
    let p = err_from_is_err_and c.from_residual.result c.from_residual.ensures.1 in
    rw (p.1, p.2) (called-long _ _ _ (λ t. (instantiate-row t _ _).is) _ _ c.in_err-check_lengths.ensures)

pub returns-in_err-names : goal.returns-in_err-names
returns-in_err-names c =
    let p = err_from_is_err_and c.from_residual-in_err-names.result c.from_residual-in_err-names.ensures.1 in
    rw (p.1, p.2) (untested _ _ _ c.in_err-names.was c.in_ok-check_lengths.ensures)

pub returns-in_err-scheme : goal.returns-in_err-scheme
returns-in_err-scheme c =
    let p = err_from_is_err_and c.from_residual-in_err-scheme.result c.from_residual-in_err-scheme.ensures.1 in
    rw (p.1, p.2, c.in_ok-names.was)
    (first-refused (instantiate-row _ _ _) c.in_ok-check_lengths.ensures (kept c.in_ok-names.names) _ c.in_err-scheme.ensures)

pub returns-in_err-handed : goal.returns-in_err-handed
returns-in_err-handed c =
    let p = err_from_is_err_and c.from_residual-in_err-handed.result c.from_residual-in_err-handed.ensures.1 in
    rw (p.1, p.2, c.in_ok-names.was)
    (numbers-refused (instantiate-row _ _ _) c.in_ok-check_lengths.ensures (kept c.in_ok-names.names) c.in_ok-scheme.ensures no-bounds _
    c.in_err-handed.ensures.answer)

pub check_unmixed-requires : goal.check_unmixed-requires
check_unmixed-requires c =
    scheme-small c.in_ok-names.names _ _ _ c.in_ok-check_lengths.ensures (record { word = λ i. (c.type_inv.given i).fits }) c.in_ok-scheme.ensures

pub returns-in_err-check_unmixed : goal.returns-in_err-check_unmixed
returns-in_err-check_unmixed c =
    let n = c.in_ok-names.names in
    let short = c.in_ok-check_lengths.ensures in
    let p = err_from_is_err_and c.from_residual-in_err-check_unmixed.result c.from_residual-in_err-check_unmixed.ensures.1 in
    rw (p.1, p.2, c.in_ok-names.was)
    (mixed-refused (instantiate-row _ _ _) short (kept n) c.in_ok-scheme.ensures no-bounds c.in_ok-handed.ensures.answer _
    (scheme-apart n _ _ _ short (record { word = λ i. (c.type_inv.given i).fits }) c.in_ok-scheme.ensures (c.in_err-check_unmixed.ensures _)))

pub instantiate_scheme-requires-clause-ready : goal.instantiate_scheme-requires-clause-ready
instantiate_scheme-requires-clause-ready c =
    let short = c.in_ok-check_lengths.ensures in
    let word : Words32 c.args.given.now = record { word = λ i. (c.type_inv.given i).fits } in
    let h = c.in_ok-handed.handed in
    instantiate-ready h _ word (words-short _ _ _ short) _
    (given-over h _ c.in_ok-handed.ensures.same.0 (scheme-given c.in_ok-names.names _ _ _ short word c.in_ok-scheme.ensures))

pub returns : goal.returns
returns c =
    let n = c.in_ok-names.names in
    let h = c.in_ok-handed.handed in
    let same = c.in_ok-handed.ensures.same in
    let short = c.in_ok-check_lengths.ensures in
    let word : Words32 c.args.given.now = record { word = λ i. (c.type_inv.given i).fits } in
    rw c.in_ok-names.was
    (met (instantiate-row _ _ _) short (kept n) c.in_ok-scheme.ensures no-bounds c.in_ok-handed.ensures.answer
    (scheme-apart n _ _ _ short word c.in_ok-scheme.ensures (c.in_ok-check_unmixed.ensures _))
    (instantiate-met h _ word (words-short _ _ _ short) _ (given-over h _ same.0 (scheme-given n _ _ _ short word c.in_ok-scheme.ensures)) same
    c.instantiate_scheme.ensures))
