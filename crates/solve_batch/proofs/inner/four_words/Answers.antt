-- `inner::four_words` meets its contract.
use mathlib.Core.Path.{◌≡◌, ap, ◌∙◌}
use native.Mathlib.Omega.{arith}
use Rattle.std.specs.Prelude.{Ok}
use Rattle.solve_finish.specs.declared.Finish.TheVariants.{Solved, Unsolved}
use Rattle.rules.specs.Batches.{recordsOf, fourWords}
use Rattle.solve_batch.proofs.inner.four_words.Goals as goal

pub overflow_cast-result : goal.overflow_cast-result
unfolding recordsOf
overflow_cast-result c =
    let e : c.args.s.outcome ≡ Ok (Solved c.in-Ok-Solved.b c.in-Ok-Solved.n) =
    let i : c.args.s.outcome ≡ Ok c.in-Ok-Solved.field-0 = c.in-Ok-Solved.is in i ∙ ap Ok (rw i at c.in-Ok-Solved.field-0-is) in
    let h = rw e at c.requires in omega (arith, h)

pub overflow_cast-result-in-Ok-Solved : goal.overflow_cast-result-in-Ok-Solved
unfolding recordsOf
overflow_cast-result-in-Ok-Solved c =
    let e : c.args.s.outcome ≡ Ok (Solved c.in-Ok-Solved.b c.in-Ok-Solved.n) =
    let i : c.args.s.outcome ≡ Ok c.in-Ok-Solved.field-0 = c.in-Ok-Solved.is in i ∙ ap Ok (rw i at c.in-Ok-Solved.field-0-is) in
    let h = rw e at c.requires in omega (arith, h)

pub overflow_cast-result-in-Ok-Unsolved : goal.overflow_cast-result-in-Ok-Unsolved
unfolding recordsOf
overflow_cast-result-in-Ok-Unsolved c =
    let e : c.args.s.outcome ≡ Ok (Unsolved c.in-Ok-Unsolved.n) =
    let i : c.args.s.outcome ≡ Ok c.in-Ok-Unsolved.field-0 = c.in-Ok-Unsolved.is in i ∙ ap Ok (rw i at c.in-Ok-Unsolved.field-0-is) in
    let h = rw e at c.requires in omega (arith, h)

pub returns-in-Ok-Solved : goal.returns-in-Ok-Solved
unfolding fourWords
returns-in-Ok-Solved c =
    let e : c.args.s.outcome ≡ Ok (Solved c.in-Ok-Solved.b c.in-Ok-Solved.n) =
    let i : c.args.s.outcome ≡ Ok c.in-Ok-Solved.field-0 = c.in-Ok-Solved.is in i ∙ ap Ok (rw i at c.in-Ok-Solved.field-0-is) in
    rw e

pub returns-in-Ok-Unsolved : goal.returns-in-Ok-Unsolved
unfolding fourWords
returns-in-Ok-Unsolved c =
    let e : c.args.s.outcome ≡ Ok (Unsolved c.in-Ok-Unsolved.n) =
    let i : c.args.s.outcome ≡ Ok c.in-Ok-Unsolved.field-0 = c.in-Ok-Unsolved.is in i ∙ ap Ok (rw i at c.in-Ok-Unsolved.field-0-is) in
    rw (e, c.number.ensures)

pub returns-in-Err : goal.returns-in-Err
unfolding fourWords
returns-in-Err c = rw (c.in-Err.is, c.number-in-Err.ensures)
