-- `add` meets its contract.
use Rattle.std.proofs.Common.{sym, ◌∙◌}
use Rattle.records.specs.Found.{Words32}
use Rattle.std.proofs.lemmas.Result.{err_from_is_err_and}
use Rattle.solve_add.proofs.Whole.{ready, called, refusing}
use Rattle.solve_add.proofs.add.Goals as goal

pub add_good-requires : goal.add_good-requires
add_good-requires c =
    let con-words : Words32 c.args.con.now = record { word = λ i. (c.type_inv.con i).fits } in
    let checked = c.in_ok-constraint.ensures in
    (_, ready _ _ _ _ _ _ (sym checked.answer) checked.words con-words)

pub returns : goal.returns
returns c =
    let con-words : Words32 c.args.con.now = record { word = λ i. (c.type_inv.con i).fits } in
    let checked = c.in_ok-constraint.ensures in
    c.add_good.ensures _ _ (ready _ _ _ _ _ _ (sym checked.answer) checked.words con-words) ∙ called _ _ _ _ _ _ (sym checked.answer)

pub returns-in_err-constraint : goal.returns-in_err-constraint
returns-in_err-constraint c =
    let p = err_from_is_err_and c.from_residual.result c.from_residual.ensures.1 in
    rw (p.1, p.2) (refusing _ _ _ _ _ _ c.in_err-constraint.ensures.answer)
