-- `rescue` meets its contract: by what the checks say, and what was taken.
use Rattle.std.proofs.Common.{sym}
use Rattle.std.proofs.lemmas.Result.{err_from_is_err_and}
use Rattle.rescue.proofs.Answers.{given-good, rescue-refused, rescue-given}
use Rattle.rescue.proofs.rescue.Goals as goal

pub returns-in_err-given : goal.returns-in_err-given
returns-in_err-given c =
    let a = c.args in
    let p = err_from_is_err_and c.from_residual.result c.from_residual.ensures.1 in
    rw (p.1, p.2) (rescue-refused a.pool.now a.table.now a.file.now a.kept.now a.skipped.now _ (sym c.in_err-given.ensures))

pub invariant_of-names : goal.invariant_of-names
invariant_of-names c = record { good = (given-good _ _ _ _ _ (sym c.in_ok-given.ensures)).good }

pub take_words-requires : goal.take_words-requires
take_words-requires c = (given-good _ _ _ _ _ (sym c.in_ok-given.ensures)).short

pub returns : goal.returns
returns c =
    let a = c.args in
    rescue-given a.pool.now a.table.now a.file.now a.kept.now a.skipped.now _ _ _ (sym c.in_ok-given.ensures) c.take_words.ensures
