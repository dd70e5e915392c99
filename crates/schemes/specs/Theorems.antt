-- What the contracts of the calls on schemes decide. The functions of src/theorems promise these statements.
use Rattle.std.specs.Prelude.{Result, ◌≡◌, List, ℕ}
use Rattle.rules.specs.Calls.{Written, quantifyCall, generaliseCall, instantiateCall}
use Rattle.rules.specs.Numbers.{written, number}
use Rattle.rules.specs.declared.Refusal.{Refusal}
use Rattle.records_buffers.specs.Told.{writtenAs}
use Rattle.records_buffers.specs.Determined.{OneResult}
use Rattle.rules.specs.Refusals.{numberAnswer}

-- two results that a clause `writtenAs .. ≡ w` allows are the same: the answer, and both buffers
abbrev pub OneWritten : Written → Type 0
OneWritten w = (p q : Result ℕ Refusal) (a b c d : List ℕ) → writtenAs p a c ≡ w → writtenAs q b d ≡ w → OneResult p q a b c d

-- what it allows has the number of its outcome: 0, or that of the refusal
abbrev pub NumberedAs : Written → Type 0
NumberedAs w = (p : Result ℕ Refusal) (a c : List ℕ) → writtenAs p a c ≡ w → numberAnswer p ≡ number (written w)

pub record CallsDetermined : Type 0 where
  pub quantifying : (pool table type bounds names result work : List ℕ) → OneWritten (quantifyCall pool table type bounds names result work)
  pub generalising : (pool table given bounds result work : List ℕ) → OneWritten (generaliseCall pool table given bounds result work)
  pub instantiating : (pool table given names result work : List ℕ) → OneWritten (instantiateCall pool table given names result work)

pub record CallsNumbered : Type 0 where
  pub quantifying : (pool table type bounds names result work : List ℕ) → NumberedAs (quantifyCall pool table type bounds names result work)
  pub generalising : (pool table given bounds result work : List ℕ) → NumberedAs (generaliseCall pool table given bounds result work)
  pub instantiating : (pool table given names result work : List ℕ) → NumberedAs (instantiateCall pool table given names result work)
