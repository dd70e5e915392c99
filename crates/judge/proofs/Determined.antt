-- The contract leaves no choice, and the answer has the number of its outcome.
use Rattle.std.specs.Prelude.{◌≡◌, List, ℕ, Bool, Result}
use Rattle.std.proofs.Common.{sym, ◌∙◌}
use Rattle.std.proofs.Math.Path.{ap}
use Rattle.rules.specs.Calls.{Judged}
use Rattle.rules.specs.Numbers.{refusalIn, number}
use Rattle.rules.specs.declared.Refusal.{Refusal}
use Rattle.laws.proofs.Numbers.{told-injective, answer-in}
use Rattle.judge.specs.Told.{judgedAs}
use Rattle.judge.specs.Theorems.{OneResult, JudgeDetermined, JudgeNumbered}

one-result : (a b : Result Bool Refusal) (work work' : List ℕ) → judgedAs a work ≡ judgedAs b work' → OneResult a b work work'
one-result a b work work' e =
    record { answers = told-injective a b (ap (λ (j : Judged). j.answer) e); works = ap (λ (j : Judged). j.work) e }

pub judge-determined : JudgeDetermined
judge-determined pool table set entries types bounds work p q c d h k = one-result p q c d (h ∙ sym k)

pub judge-numbered : JudgeNumbered
unfolding number
judge-numbered pool table set entries types bounds work p c h = answer-in p ∙ ap (λ (j : Judged). refusalIn j.answer) h
