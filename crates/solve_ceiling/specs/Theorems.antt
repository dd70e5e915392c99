-- What the contract of the ceiling decides. The functions of src/theorems promise these statements; the proofs stand in proofs/Determined.
use Rattle.std.specs.Prelude.{◌≡◌, List, ℕ, ◌≤◌, Result, IfOk}
use Rattle.rules.specs.Ceiling.{ceilingCall}
use Rattle.rules.specs.Numbers.{number, most}
use Rattle.rules.specs.Refusals.{toldBy, numberAnswer}
use Rattle.rules.specs.declared.Refusal.{Refusal}
use Rattle.laws.specs.ReadLists.{Words}
use Rattle.solve_ceiling.specs.declared.Most.{Most}
use Rattle.solve_ceiling.specs.Told.{toldMost}

-- the contract of `ceiling` leaves no choice: two answers that it allows coincide
abbrev pub CeilingDetermined : Type 0
CeilingDetermined = (pool table words : List ℕ) (p q : Result Most Refusal)
    → toldBy toldMost p ≡ ceilingCall pool table words → toldBy toldMost q ≡ ceilingCall pool table words → p ≡ q

-- and the answer has the number of its outcome
abbrev pub CeilingNumbered : Type 0
CeilingNumbered = (pool table words : List ℕ) (p : Result Most Refusal)
    → toldBy toldMost p ≡ ceilingCall pool table words → numberAnswer p ≡ number (most (ceilingCall pool table words))

-- 'with at most 256 names that is 1,579,264'
pub record Highest (m : Most) : Type 0 where
  pub variables : m.variables ≤ 256
  pub rounds : m.rounds ≤ 1_579_264

-- no answer of `ceiling` is higher, on any words of 32 bits
abbrev pub CeilingHighest : Type 0
CeilingHighest = (pool table words : List ℕ) (p : Result Most Refusal) → Words words
    → toldBy toldMost p ≡ ceilingCall pool table words → IfOk p Highest
