-- `inner::solve_set` meets its contract.
use Rattle.rules.specs.Base.{got, bounded}
use Rattle.rules.specs.Calls.{solvedSet}
use Rattle.rules.specs.Names.{numbersOf}
use Rattle.rules.specs.Solving.{solve}
use Rattle.types.specs.Given.{constraints_in}
use Rattle.types.proofs.Entering.{entered-given, came-in, kept_out}
use Rattle.solve.proofs.Entry.{begun, answers-as, refused-answers}
use Rattle.solve.proofs.inner.solve_set.Goals as goal

pub run-requires-clause-begun : goal.run-requires-clause-begun
run-requires-clause-begun c =
    let s = c.in-Ok.set in
    let x = entered-given _ _ s c.in-Ok.ensures.same c.in-Ok.ensures.answer in
    (constraints_in s, begun _ (record { word = λ i. (c.type_inv.words i).fits }) s x)

pub returns-in-Ok : goal.returns-in-Ok
unfolding solvedSet
returns-in-Ok c =
    let s = c.in-Ok.set in
    let x = entered-given _ _ s c.in-Ok.ensures.same c.in-Ok.ensures.answer in
    answers-as _ _ _ _ _ (came-in (λ t cs. got (solve (numbersOf t) bounded cs)) _ _ s c.in-Ok.ensures.same c.in-Ok.ensures.answer)
    (c.run.ensures (constraints_in s) (begun _ (record { word = λ i. (c.type_inv.words i).fits }) s x))

pub returns-in-Err : goal.returns-in-Err
unfolding solvedSet
returns-in-Err c =
    refused-answers _ _ _ _ (kept_out (λ t cs. got (solve (numbersOf t) bounded cs)) _ _ _ c.in-Err.ensures.answer) c.stopped.ensures
