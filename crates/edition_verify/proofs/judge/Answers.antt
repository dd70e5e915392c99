use Rattle.std.proofs.Common.{sym}
use Rattle.edition_verify.specs.Files.{had}
use Rattle.edition_verify.proofs.Going.{yes-true}
use Rattle.edition_verify.proofs.judge.Goals as goal

pub returns-in-Some-clause-truth : goal.returns-in-Some-clause-truth
unfolding had
returns-in-Some-clause-truth c = yes-true c.args.entries.now (had c.args.file.now) c.in-Some.entry.now c.judge_by.result
    (sym (rw (c.deref.ensures.value, c.in_ok-name.ensures) at c.in-Some.ensures)) c.judge_by.ensures.answer c.judge_by.ensures.truth
