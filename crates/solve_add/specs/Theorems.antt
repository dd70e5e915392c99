-- What the contract of adding decides. The functions of src/theorems promise these statements; the proofs stand in proofs/Determined.
use Rattle.std.specs.Prelude.{◌≡◌, List, ℕ, Result}
use Rattle.rules.specs.Calls.{addCall}
use Rattle.rules.specs.Numbers as numbers
use Rattle.rules.specs.Numbers.{number}
use Rattle.rules.specs.Refusals.{numberAnswer}
use Rattle.rules.specs.declared.Refusal.{Refusal}
use Rattle.solve_add.specs.declared.Verdict.{Verdict}
use Rattle.solve_add.specs.Told.{addedAs}

-- the contract of `add` leaves no choice: two results that it allows coincide, the answer and the buffer
abbrev pub AddDetermined : Type 0
AddDetermined = (pool table buffer : List ℕ) (count : ℕ) (con : List ℕ) (p q : Result (Verdict × ℕ) Refusal) (a b : List ℕ)
    → addedAs p a ≡ addCall pool table buffer count con → addedAs q b ≡ addCall pool table buffer count con → (p ≡ q) × (a ≡ b)

-- and the answer has the number of its outcome
abbrev pub AddNumbered : Type 0
AddNumbered = (pool table buffer : List ℕ) (count : ℕ) (con : List ℕ) (p : Result (Verdict × ℕ) Refusal) (a : List ℕ)
    → addedAs p a ≡ addCall pool table buffer count con
    → numberAnswer p ≡ number (numbers.added (addCall pool table buffer count con))
