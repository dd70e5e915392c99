use Rattle.std.proofs.lemmas.Result.{IfOk-weaker}
use Rattle.edition_certified.proofs.Judged.{lines-true}
use Rattle.edition_certified.proofs.inner.judge_lines.Goals as goal

pub returns-in-Ok-clause-truth : goal.returns-in-Ok-clause-truth
returns-in-Ok-clause-truth c =
    let kept = rw c.in-Ok.is at c.in_ok-records.ensures in
    let w = rw c.deref.ensures.value at c.judge_records.ensures.words in
    let is = rw c.deref.ensures.value at c.judge_records.ensures.answer in
    IfOk-weaker c.judge_records.result _ _ (λ x e. lines-true _ _ c.args.set.now c.in-Ok.records w _ kept x e) is
