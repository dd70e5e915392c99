-- `inner::Lines::is_refused` meets its contract.
use Rattle.std.specs.Prelude.{Ok}
use Rattle.std.proofs.Common.{◌≡◌, ap, ◌∙◌, arith, refl, length-take-le}
use Rattle.solve_conflict.proofs.Testing.{few, fine-part, many, within, ready, not-refused, is-refused, stops}
use Rattle.solve_conflict.proofs.Steps.{part}
use Rattle.solve_conflict.proofs.inner.Lines.is_refused.Goals as goal

pub put_standing-requires-clause-few : goal.put_standing-requires-clause-few
put_standing-requires-clause-few c = omega (arith, few c.args.self.set.all.trees.0, c.args.self.set.fine.small)

pub run-requires-clause-begun : goal.run-requires-clause-begun
run-requires-clause-begun c =
    let a = c.args in
    let cs = a.self.set.all.trees.0 in
    (part a.stands.now 0 cs, ready _ _ _ (fine-part _ _ a.stands.now cs a.self.set.fine) _ _ refl c.put_standing.ensures (omega arith) (omega arith))

pub returns-in-Ok-Solved : goal.returns-in-Ok-Solved
returns-in-Ok-Solved c =
    let a = c.args in
    let cs = a.self.set.all.trees.0 in
    let i : c.run.result.outcome ≡ Ok c.in-Ok-Solved.field-0 = c.in-Ok-Solved.is in
    not-refused _ _ _ (c.run.ensures (part a.stands.now 0 cs)
    (ready _ _ _ (fine-part _ _ a.stands.now cs a.self.set.fine) _ _ refl c.put_standing.ensures (omega arith) (omega arith))).answer _ _
    (i ∙ ap Ok (rw i at c.in-Ok-Solved.field-0-is))

pub returns-in-Ok-Unsolved : goal.returns-in-Ok-Unsolved
returns-in-Ok-Unsolved c =
    let a = c.args in
    let cs = a.self.set.all.trees.0 in
    let i : c.run.result.outcome ≡ Ok c.in-Ok-Unsolved.field-0 = c.in-Ok-Unsolved.is in
    is-refused _ _ _ (c.run.ensures (part a.stands.now 0 cs)
    (ready _ _ _ (fine-part _ _ a.stands.now cs a.self.set.fine) _ _ refl c.put_standing.ensures (omega arith) (omega arith))).answer _
    (i ∙ ap Ok (rw i at c.in-Ok-Unsolved.field-0-is))

pub returns-in-Err : goal.returns-in-Err
returns-in-Err c =
    let a = c.args in
    let cs = a.self.set.all.trees.0 in
    stops _ _ _ (c.run.ensures (part a.stands.now 0 cs)
    (ready _ _ _ (fine-part _ _ a.stands.now cs a.self.set.fine) _ _ refl c.put_standing.ensures (omega arith) (omega arith))).answer _
    c.in-Err.is

pub overflow_mul-end : goal.overflow_mul-end
overflow_mul-end c =
    let a = c.args in
    let cs = a.self.set.all.trees.0 in
    omega (arith, many _ _ _ (fine-part _ _ a.stands.now cs a.self.set.fine) _ _ refl c.put_standing.ensures (omega arith))

pub slice_bounds-run-end : goal.slice_bounds-run-end
slice_bounds-run-end c =
    let a = c.args in
    let cs = a.self.set.all.trees.0 in
    omega (
      arith,
      length-take-le _ _ (within _ _ _ (fine-part _ _ a.stands.now cs a.self.set.fine) _ _ refl c.put_standing.ensures (omega arith)),
    )
