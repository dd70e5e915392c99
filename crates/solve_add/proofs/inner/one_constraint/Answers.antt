-- `inner::one_constraint` meets its contract.
use Rattle.std.specs.Prelude.{List, [], ◌∷◌, ℕ}
use Rattle.std.proofs.Common.{ap, ◌∙◌}
use Rattle.std.proofs.lemmas.Result.{err_from_is_err_and}
use Rattle.rules.specs.Base.{Got, ◌>>=◌}
use Rattle.rules.specs.Calls.{only}
use Rattle.rules.specs.Trees.{Con}
use Rattle.types.specs.Shapes.{con_of}
use Rattle.solve_add.proofs.Checked.{one-of, two-of}
use Rattle.solve_add.proofs.inner.one_constraint.Goals as goal

pub returns-in_err-set : goal.returns-in_err-set
returns-in_err-set c =
    let p = err_from_is_err_and c.from_residual.result c.from_residual.ensures.1 in
    rw (p.1, p.2) (ap (λ (m : Got (List (Con ℕ))). m >>= only) c.in_err-set.ensures.answer)

pub returns-in-None : goal.returns-in-None
unfolding only
returns-in-None c = let all = c.in_ok-set.set.all in one-of all.words.now all.at [] c.in_ok-set.ensures.answer c.in-None.ensures

pub returns-in-None-split_first : goal.returns-in-None-split_first
unfolding only
returns-in-None-split_first c =
    let all = c.in_ok-set.set.all in
    one-of all.words.now all.at (con_of c.in-Some.first ∷ []) c.in_ok-set.ensures.answer
    (ap (con_of c.in-Some.first ∷◌) c.in-None-split_first.ensures ∙ c.in-Some.ensures)

pub returns-in-Some-split_first : goal.returns-in-Some-split_first
returns-in-Some-split_first c =
    let all = c.in_ok-set.set.all in
    two-of all.words.now all.at c.in_ok-set.ensures.answer c.in-Some-split_first.ensures c.in-Some.ensures
