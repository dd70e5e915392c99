use Rattle.std.proofs.Common.{◌∙◌}
use Rattle.std.proofs.lemmas.Result.{IfOk-weaker}
use Rattle.edition_certified.proofs.Judged.{begins-good, no-pool, no-table, kept-good, text-said, text-true, text-stopped}
use Rattle.edition_certified.proofs.inner.judge_text.Goals as goal

pub read_over-requires : goal.read_over-requires
read_over-requires c = begins-good

pub judge_lines-requires : goal.judge_lines-requires
judge_lines-requires c = kept-good _ _ c.in-Ok.set _ (rw c.in-Ok.is at c.in_ok-set.ensures)

pub returns-in-Ok-clause-answer : goal.returns-in-Ok-clause-answer
returns-in-Ok-clause-answer c =
    let kept = rw (c.in-Ok.is, no-pool, no-table) at c.in_ok-set.ensures in
    let is = rw c.deref.ensures.value at c.judge_lines.ensures.answer in
    IfOk-weaker c.judge_lines.result _ _ (λ x k. k ∙ text-said c.args.text.now c.args.lines.now _ _ c.in-Ok.set _ kept) is

pub returns-in-Ok-clause-truth : goal.returns-in-Ok-clause-truth
returns-in-Ok-clause-truth c =
    let kept = rw (c.in-Ok.is, no-pool, no-table) at c.in_ok-set.ensures in
    let true-by = rw c.deref.ensures.value at c.judge_lines.ensures.truth in
    IfOk-weaker c.judge_lines.result _ _ (λ x k. text-true c.args.text.now c.args.lines.now _ _ c.in-Ok.set kept x k) true-by

pub returns-in-Err-clause-answer : goal.returns-in-Err-clause-answer
returns-in-Err-clause-answer c =
    let kept = rw (c.in-Err.is, no-pool, no-table) at c.in_ok-set.ensures in
    text-stopped c.read_over.new.pool c.read_over.new.table c.args.lines.now c.in-Err.stop _ kept
