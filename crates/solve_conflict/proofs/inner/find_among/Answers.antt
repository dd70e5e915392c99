-- `inner::find_among` meets its contract.
use Rattle.std.proofs.lemmas.Result.{err_from_is_err_and}
use Rattle.solve_conflict.proofs.Entering.{outside, inside}
use Rattle.solve_conflict.proofs.inner.find_among.Goals as goal

pub returns-in_err-set : goal.returns-in_err-set
returns-in_err-set c =
    let p = err_from_is_err_and c.from_residual.result c.from_residual.ensures.1 in
    rw (p.1, p.2) (outside _ _ _ _ c.in_err-set.ensures.answer)

pub returns : goal.returns
returns c = inside _ _ c.in_ok-set.set _ _ _ c.in_ok-set.ensures.same c.in_ok-set.ensures.answer c.find.ensures
