-- `inner::generalising::make_generalised` meets its contract.
use Rattle.std.proofs.Common.{ap, arith}
use Rattle.std.proofs.lemmas.Result.{err_from_is_err_and}
use Rattle.records.specs.Found.{Words32}
use Rattle.schemes_handed.specs.Given.{scheme_in}
use Rattle.types.proofs.Tested.{kept}
use Rattle.schemes.proofs.Called.{called-long, untested}
use Rattle.schemes.proofs.Generalising.{generalise-row, the-scheme, type-ready}
use Rattle.schemes.proofs.Rows.{words-short, bounds-alone, no-numbers, first-refused, bounds-refused, mixed-refused, met}
use Rattle.schemes.proofs.Schemes.{scheme-given, scheme-small, scheme-apart}
use Rattle.schemes.proofs.inner.generalising.make_generalised.Goals as goal

pub returns-in_err-check_lengths : goal.returns-in_err-check_lengths
returns-in_err-check_lengths c =
    let p = err_from_is_err_and c.from_residual.result c.from_residual.ensures.1 in
    rw (p.1, p.2) (called-long _ _ _ (λ t. (generalise-row t _ _).is) _ _ c.in_err-check_lengths.ensures)

pub returns-in_err-names : goal.returns-in_err-names
returns-in_err-names c =
    let p = err_from_is_err_and c.from_residual-in_err-names.result c.from_residual-in_err-names.ensures.1 in
    rw (p.1, p.2) (untested _ _ _ c.in_err-names.was c.in_ok-check_lengths.ensures)

pub returns-in_err-scheme : goal.returns-in_err-scheme
returns-in_err-scheme c =
    let p = err_from_is_err_and c.from_residual-in_err-scheme.result c.from_residual-in_err-scheme.ensures.1 in
    rw (p.1, p.2, c.in_ok-names.was)
    (first-refused (generalise-row _ _ _) c.in_ok-check_lengths.ensures (kept c.in_ok-names.names) _ c.in_err-scheme.ensures)

pub returns-in_err-bounds : goal.returns-in_err-bounds
returns-in_err-bounds c =
    let p = err_from_is_err_and c.from_residual-in_err-bounds.result c.from_residual-in_err-bounds.ensures.1 in
    rw (p.1, p.2, c.in_ok-names.was)
    (bounds-refused (generalise-row _ _ _) c.in_ok-check_lengths.ensures (kept c.in_ok-names.names) c.in_ok-scheme.ensures _ c.in_err-bounds.ensures)

pub check_unmixed-requires : goal.check_unmixed-requires
check_unmixed-requires c =
    scheme-small c.in_ok-names.names _ _ _ c.in_ok-check_lengths.ensures (record { word = λ i. (c.type_inv.given i).fits }) c.in_ok-scheme.ensures

pub returns-in_err-check_unmixed : goal.returns-in_err-check_unmixed
returns-in_err-check_unmixed c =
    let n = c.in_ok-names.names in
    let short = c.in_ok-check_lengths.ensures in
    let p = err_from_is_err_and c.from_residual-in_err-check_unmixed.result c.from_residual-in_err-check_unmixed.ensures.1 in
    rw (p.1, p.2, c.in_ok-names.was)
    (mixed-refused (generalise-row _ _ _) short (kept n) c.in_ok-scheme.ensures c.in_ok-bounds.ensures no-numbers _
    (scheme-apart n _ _ _ short (record { word = λ i. (c.type_inv.given i).fits }) c.in_ok-scheme.ensures (c.in_err-check_unmixed.ensures _)))

pub generalise_type-requires-clause-ready : goal.generalise_type-requires-clause-ready
generalise_type-requires-clause-ready c =
    let n = c.in_ok-names.names in
    let short = c.in_ok-check_lengths.ensures in
    let word : Words32 c.args.given.now = record { word = λ i. (c.type_inv.given i).fits } in
    type-ready n.pool.now n.table.now _ _ word _ (scheme-given n _ _ _ short word c.in_ok-scheme.ensures) (ap scheme_in c.in-Concrete.is) _
    (bounds-alone _ _ _ short _ c.in_ok-bounds.ensures) (scheme-apart n _ _ _ short word c.in_ok-scheme.ensures (c.in_ok-check_unmixed.ensures _))

pub returns-in-Concrete : goal.returns-in-Concrete
returns-in-Concrete c =
    let n = c.in_ok-names.names in
    let short = c.in_ok-check_lengths.ensures in
    rw c.in_ok-names.was
    (met (generalise-row _ _ _) short (kept n) c.in_ok-scheme.ensures c.in_ok-bounds.ensures no-numbers
    (scheme-apart n _ _ _ short (record { word = λ i. (c.type_inv.given i).fits }) c.in_ok-scheme.ensures (c.in_ok-check_unmixed.ensures _))
    (rw (ap scheme_in c.in-Concrete.is) c.generalise_type.ensures))

pub copy-requires : goal.copy-requires
copy-requires c =
    let short = words-short _ _ _ c.in_ok-check_lengths.ensures in
    record { order = omega arith; within = omega arith; near = omega (arith, short) }

pub returns-in-Quantified : goal.returns-in-Quantified
returns-in-Quantified c =
    let n = c.in_ok-names.names in
    let short = c.in_ok-check_lengths.ensures in
    let word : Words32 c.args.given.now = record { word = λ i. (c.type_inv.given i).fits } in
    rw c.in_ok-names.was
    (met (generalise-row _ _ _) short (kept n) c.in_ok-scheme.ensures c.in_ok-bounds.ensures no-numbers
    (scheme-apart n _ _ _ short word c.in_ok-scheme.ensures (c.in_ok-check_unmixed.ensures _))
    (the-scheme n.pool.now n.table.now c.args.given.now (scheme_in c.in_ok-scheme.scheme) c.in_ok-bounds.bounds.listed.0 (ap scheme_in c.in-Quantified.is)
    (scheme-given n _ _ _ short word c.in_ok-scheme.ensures) word (words-short _ _ _ short) c.args.work.now _ c.requires c.copy.ensures))
