-- `ceiling` meets its contract: by what the count says.
use mathlib.Core.Path.{sym, ap, ◌∙◌}
use Rattle.std.proofs.lemmas.Result.{err_from_is_err_and}
use Rattle.rules.specs.Base.{got}
use Rattle.solve_ceiling.proofs.Answers.{ceiling-refused, ceiling-given}
use Rattle.solve_ceiling.proofs.Counting.{counted-few}
use Rattle.solve_ceiling.proofs.ceiling.Goals as goal

pub most-requires : goal.most-requires
most-requires c = counted-few c.distinct.ensures.counted

pub returns : goal.returns
returns c = ap got c.most.ensures ∙ sym (ceiling-given _ _ _ (record { word = λ i. (c.type_inv.words i).fits }) (sym c.in_ok-is_set.ensures) _
    c.distinct.ensures)

pub returns-in_err-is_set : goal.returns-in_err-is_set
returns-in_err-is_set c =
    let p = err_from_is_err_and c.from_residual.result c.from_residual.ensures.1 in
    rw (p.1, p.2) (sym (ceiling-refused _ _ _ _ (sym c.in_err-is_set.ensures)))
