-- `compact` meets its contract.
use Rattle.std.proofs.Common.{refl, sym, arith}
use Rattle.std.proofs.lemmas.Result.{err_from_is_err_and}
use Rattle.laws.specs.NameTable.{Good}
use Rattle.laws.proofs.NameTable.{good-laid}
use Rattle.compaction.proofs.Checks.{checks-good}
use Rattle.compaction.proofs.Called.{called, call-refused}
use Rattle.compaction.proofs.compact.Goals as goal

pub returns-in_err-check : goal.returns-in_err-check
returns-in_err-check c =
    let p = err_from_is_err_and c.from_residual.result c.from_residual.ensures.1 in
    rw (p.1, p.2) (call-refused _ _ _ _ _ (sym c.in_err-check.ensures))

pub count-requires : goal.count-requires
count-requires c = (checks-good _ _ _ _ (sym c.in_ok-check.ensures)).words

pub mark-requires : goal.mark-requires
mark-requires c =
    let g : Good c.args.pool.now c.args.table.now = checks-good _ _ _ _ (sym c.in_ok-check.ensures) in
    record { places = refl; few = omega (arith, c.count.ensures, (good-laid g).few) }

pub renumber-requires : goal.renumber-requires
renumber-requires c = c.mark.ensures.long

pub squeeze-requires : goal.squeeze-requires
squeeze-requires c = checks-good _ _ _ _ (sym c.in_ok-check.ensures)

pub returns : goal.returns
returns c =
    let a = c.args in
    called a.pool.now a.table.now a.sets.now a.lengths.now _ c.squeeze.result _ _ _ (sym c.in_ok-check.ensures)
    (rw c.count.ensures at c.mark.ensures) c.renumber.ensures c.squeeze.ensures
