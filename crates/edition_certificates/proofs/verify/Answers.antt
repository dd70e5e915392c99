use Rattle.std.proofs.Common.{sym, ◌∙◌}
use Rattle.edition_certificates.proofs.Verdict.{no-set, other-line, is-judged}
use Rattle.edition_certificates.proofs.verify.Goals as goal

pub returns-in-Err : goal.returns-in-Err
returns-in-Err c = no-set _ _ _ _ _ (sym c.in-Err.ensures)

pub returns-in-Some : goal.returns-in-Some
returns-in-Some c = c.judge_proposal.ensures ∙ is-judged _ _ _ _ (sym c.in-Ok.ensures) c.in-Some.proposal (rw c.in-Some.is at c.in_ok-proposal-in-Ok.ensures)

pub returns-in-None : goal.returns-in-None
returns-in-None c = other-line _ _ _ _ (sym c.in-Ok.ensures) (rw c.in-None.is at c.in_ok-proposal-in-Ok.ensures)
