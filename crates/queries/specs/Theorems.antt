-- What is proved of the calls by themselves. The functions of src/theorems.rt promise these statements.
use Rattle.std.specs.Prelude.{◌≡◌, Bool, List, ℕ, Result}
use Rattle.rules.specs.Base.{Got}
use Rattle.rules.specs.Calls.{containsCall, closedCall, variablesCall}
use Rattle.rules.specs.Numbers.{said, listed, number}
use Rattle.rules.specs.Refusals.{numberAnswer, told}
use Rattle.rules.specs.declared.Refusal.{Refusal}
use Rattle.queries.specs.Told.{listedAs}

-- two answers that a clause `told result ≡ g` allows are the same
abbrev pub OneAnswer : Got Bool → Type 0
OneAnswer g = (p q : Result Bool Refusal) → told p ≡ g → told q ≡ g → p ≡ q

-- what it allows has the number of its outcome: 0, or that of the refusal
abbrev pub NumberedAs : Got Bool → Type 0
NumberedAs g = (p : Result Bool Refusal) → told p ≡ g → numberAnswer p ≡ number (said g)

pub record CallsDetermined : Type 0 where
  pub containing : (pool table words : List ℕ) (x : ℕ) (parameters : Bool) → OneAnswer (containsCall pool table words x parameters)
  pub closed : (pool table words : List ℕ) → OneAnswer (closedCall pool table words)
  -- the answer, and all that the result buffer holds afterwards
  pub listing : (pool table words : List ℕ) (parameters : Bool) (result : List ℕ) (p q : Result ℕ Refusal) (a b : List ℕ)
      → listedAs p a ≡ variablesCall pool table words parameters result → listedAs q b ≡ variablesCall pool table words parameters result → (p ≡ q) × (a ≡ b)

pub record CallsNumbered : Type 0 where
  pub containing : (pool table words : List ℕ) (x : ℕ) (parameters : Bool) → NumberedAs (containsCall pool table words x parameters)
  pub closed : (pool table words : List ℕ) → NumberedAs (closedCall pool table words)
  pub listing : (pool table words : List ℕ) (parameters : Bool) (result : List ℕ) (p : Result ℕ Refusal) (a : List ℕ)
      → listedAs p a ≡ variablesCall pool table words parameters result → numberAnswer p ≡ number (listed (variablesCall pool table words parameters result))
