-- `inner::verdict_on` meets its contract: what solving left is what the judge asks.
use Rattle.std.specs.Prelude.{Ok}
use Rattle.std.proofs.Common.{◌≡◌, ap, ◌∙◌}
use Rattle.records.specs.Found.{Words32}
use Rattle.solve_confirm.proofs.Own.{own, stands, judged, placed}
use Rattle.solve_confirm.specs.Told.{VerdictOn}
use Rattle.solve_confirm.proofs.inner.verdict_on.Goals as goal

pub judge_found-requires-clause-constraints_stand : goal.judge_found-requires-clause-constraints_stand
judge_found-requires-clause-constraints_stand c =
    let i : c.args.solution.outcome ≡ Ok c.in-Ok-Solved.field-0 = c.in-Ok-Solved.is in
    let o = own _ _ c.args.words.now c.args.rows.now c.args.solution (rw c.in-Ok.is at c.requires.stands) c.in-Ok.names.good c.requires.short
    (i ∙ ap Ok (rw i at c.in-Ok-Solved.field-0-is)) in
    let w : Words32 c.args.words.now = record { word = λ i. (c.type_inv.words i).fits } in
    (o.passes.cs, stands _ _ _ o w)

pub judge_found-requires-clause-answer_stands : goal.judge_found-requires-clause-answer_stands
judge_found-requires-clause-answer_stands c =
    let i : c.args.solution.outcome ≡ Ok c.in-Ok-Solved.field-0 = c.in-Ok-Solved.is in
    let o = own _ _ c.args.words.now c.args.rows.now c.args.solution (rw c.in-Ok.is at c.requires.stands) c.in-Ok.names.good c.requires.short
    (i ∙ ap Ok (rw i at c.in-Ok-Solved.field-0-is)) in
    (o.bs, (o.ns, o.found))

pub judge_found-requires-clause-few_records : goal.judge_found-requires-clause-few_records
judge_found-requires-clause-few_records c =
    let i : c.args.solution.outcome ≡ Ok c.in-Ok-Solved.field-0 = c.in-Ok-Solved.is in
    let o = own _ _ c.args.words.now c.args.rows.now c.args.solution (rw c.in-Ok.is at c.requires.stands) c.in-Ok.names.good c.requires.short
    (i ∙ ap Ok (rw i at c.in-Ok-Solved.field-0-is)) in
    o.passes.short

pub returns-in-Ok-Solved : goal.returns-in-Ok-Solved
returns-in-Ok-Solved c =
    let i : c.args.solution.outcome ≡ Ok c.in-Ok-Solved.field-0 = c.in-Ok-Solved.is in
    let o = own _ _ c.args.words.now c.args.rows.now c.args.solution (rw c.in-Ok.is at c.requires.stands) c.in-Ok.names.good c.requires.short
    (i ∙ ap Ok (rw i at c.in-Ok-Solved.field-0-is)) in
    let w : Words32 c.args.words.now = record { word = λ i. (c.type_inv.words i).fits } in
    let f = c.judge_found.ensures o.passes.cs o.bs o.ns (stands _ _ _ o w) o.found in
    let v : VerdictOn c.in-Ok.names c.args.words.now c.judge_found.result = record { judged = judged _ _ _ o f; placed = placed _ _ _ o f } in
    rw c.in-Ok.is v
