use Rattle.std.specs.Prelude.{◌≡◌, Bool, List, ℕ, Result}
use Rattle.std.proofs.Common.{ap}
use Rattle.rules.specs.Calls.{Judged}
use Rattle.rules.specs.Refusals.{told}
use Rattle.rules.specs.declared.Refusal.{Refusal}
use Rattle.judge.specs.Told.{judgedAs}
use Rattle.edition_certificates.proofs.judge_proposal.Goals as goal

answer-is : (v : Result Bool Refusal) (work : List ℕ) (j : Judged) → judgedAs v work ≡ j → told v ≡ j.answer
answer-is v work j e = ap (λ (x : Judged). x.answer) e

pub returns : goal.returns
returns c = rw (← c.deref.ensures.value, ← c.deref-2.ensures.value) (answer-is _ _ _ c.judge_pairs.ensures)
