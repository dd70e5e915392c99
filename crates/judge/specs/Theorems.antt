-- What the contract of the judge decides. The functions of src/theorems promise these statements; the proofs stand in proofs/Determined.
use Rattle.std.specs.Prelude.{◌≡◌, List, ℕ, Bool, Result}
use Rattle.rules.specs.Calls.{Entry, judgeCall}
use Rattle.rules.specs.Numbers.{number, judged}
use Rattle.rules.specs.Refusals.{numberAnswer}
use Rattle.rules.specs.declared.Refusal.{Refusal}
use Rattle.judge.specs.Told.{judgedAs}

-- two answers with their work buffers are the same
pub record OneResult (a b : Result Bool Refusal) (work work' : List ℕ) : Type 0 where
  pub answers : a ≡ b
  pub works : work ≡ work'

-- the contract of `judge` leaves no choice: two results that it allows coincide
abbrev pub JudgeDetermined : Type 0
JudgeDetermined = (pool table set : List ℕ) (entries : List Entry) (types bounds work : List ℕ) (p q : Result Bool Refusal) (c d : List ℕ)
    → judgedAs p c ≡ judgeCall pool table set entries types bounds work → judgedAs q d ≡ judgeCall pool table set entries types bounds work
    → OneResult p q c d

-- and the answer has the number of its outcome
abbrev pub JudgeNumbered : Type 0
JudgeNumbered = (pool table set : List ℕ) (entries : List Entry) (types bounds work : List ℕ) (p : Result Bool Refusal) (c : List ℕ)
    → judgedAs p c ≡ judgeCall pool table set entries types bounds work
    → numberAnswer p ≡ number (judged (judgeCall pool table set entries types bounds work))
