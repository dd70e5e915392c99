-- `inner::checks::check_lengths` meets its contract.
use Rattle.std.proofs.lemmas.Result.{err_from_is_err_and}
use Rattle.schemes.proofs.Rows.{words-long, bounds-long, numbers-long, all_short}
use Rattle.schemes.proofs.inner.checks.check_lengths.Goals as goal

pub returns-in_err-short : goal.returns-in_err-short
returns-in_err-short c =
    let p = err_from_is_err_and c.from_residual.result c.from_residual.ensures.1 in
    rw (p.1, p.2) (words-long _ _ _ c.in_err-short.ensures)

pub returns-in_err-short-2 : goal.returns-in_err-short-2
returns-in_err-short-2 c =
    let p = err_from_is_err_and c.from_residual-in_err-short-2.result c.from_residual-in_err-short-2.ensures.1 in
    rw (p.1, p.2) (bounds-long _ _ _ c.in_ok-short.ensures c.in_err-short-2.ensures)

pub returns-then-numbers-gt-RECORDS : goal.returns-then-numbers-gt-RECORDS
returns-then-numbers-gt-RECORDS c = numbers-long _ _ _ c.in_ok-short.ensures c.in_ok-short-2.ensures c.if-numbers-gt-RECORDS.true

pub returns : goal.returns
returns c = all_short _ _ _ c.in_ok-short.ensures c.in_ok-short-2.ensures c.if-numbers-gt-RECORDS.false
