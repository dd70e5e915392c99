use Rattle.std.proofs.Common.{◌∙◌}
use Rattle.std.proofs.lemmas.Result.{IfOk-weaker}
use Rattle.edition_certified.proofs.Judged.{verified-true-by, same-said, not-same}
use Rattle.edition_certified.proofs.certify.Goals as goal

pub returns-then-not-has_digest-clause-answer : goal.returns-then-not-has_digest-clause-answer
returns-then-not-has_digest-clause-answer c =
    not-same c.args.digest.now c.args.text.now c.args.lines.now c.has_digest.result c.has_digest.ensures
    c.if-not-has_digest.true

pub returns-clause-answer : goal.returns-clause-answer
returns-clause-answer c =
    IfOk-weaker c.judge_text.result _ _
    (λ x k. k ∙ same-said c.args.digest.now c.args.text.now c.args.lines.now c.has_digest.result c.has_digest.ensures
    c.if-not-has_digest.false)
    c.judge_text.ensures.answer

pub returns-clause-truth : goal.returns-clause-truth
returns-clause-truth c =
    IfOk-weaker c.judge_text.result _ _
    (λ x k. verified-true-by c.args.digest.now c.args.text.now c.args.lines.now c.has_digest.result c.has_digest.ensures
    c.if-not-has_digest.false x k)
    c.judge_text.ensures.truth
