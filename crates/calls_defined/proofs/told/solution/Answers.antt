-- `solution` meets its contract.
use mathlib.Core.Path.{◌≡◌, ap, ◌∙◌}
use Rattle.std.specs.Prelude.{Ok}
use Rattle.solve_finish.specs.declared.Finish.TheVariants.{Solved, Unsolved}
use Rattle.calls_defined.proofs.told.solution.Goals as goal

pub returns-in-Ok-Solved : goal.returns-in-Ok-Solved
returns-in-Ok-Solved c =
    let i : c.args.s.outcome ≡ Ok c.in-Ok-Solved.field-0 = c.in-Ok-Solved.is in
    let e : c.args.s.outcome ≡ Ok (Solved c.in-Ok-Solved.b c.in-Ok-Solved.n) = i ∙ ap Ok (rw i at c.in-Ok-Solved.field-0-is) in
    rw e (cc)

pub returns-in-Ok-Unsolved : goal.returns-in-Ok-Unsolved
returns-in-Ok-Unsolved c =
    let i : c.args.s.outcome ≡ Ok c.in-Ok-Unsolved.field-0 = c.in-Ok-Unsolved.is in
    let e : c.args.s.outcome ≡ Ok (Unsolved c.in-Ok-Unsolved.n) = i ∙ ap Ok (rw i at c.in-Ok-Unsolved.field-0-is) in
    rw e (cc)

pub returns-in-Err : goal.returns-in-Err
returns-in-Err c = rw c.in-Err.is (cc)
