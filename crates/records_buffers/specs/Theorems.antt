-- What is proved of the calls by themselves. The functions of src/theorems.rt promise these statements. This is the page of the calls that write records,
-- too, whose answer is this crate's.
use Rattle.rules.specs.declared.Refusal.{Refusal}
use Rattle.std.specs.Prelude.{Result, ◌≡◌, Bool, List, ℕ}
use Rattle.rules.specs.Base.{need}
use Rattle.rules.specs.Calls.{lent, Written, replaceTypeCall, replaceSetCall}
use Rattle.rules.specs.Numbers.{checked, written, number}
use Rattle.rules.specs.Refusals.{numberAnswer}
use Rattle.records_buffers.specs.Determined.{OneResult, numberLent}
use Rattle.records_buffers.specs.Told.{writtenAs}

-- two results that a clause `writtenAs .. ≡ w` allows are the same: the answer, and both buffers
abbrev pub OneWritten : Written → Type 0
OneWritten w = (p q : Result ℕ Refusal) (a b c d : List ℕ) → writtenAs p a c ≡ w → writtenAs q b d ≡ w → OneResult p q a b c d

-- what it allows has the number of its outcome: 0, or that of the refusal
abbrev pub NumberedAs : Written → Type 0
NumberedAs w = (p : Result ℕ Refusal) (a c : List ℕ) → writtenAs p a c ≡ w → numberAnswer p ≡ number (written w)

pub record CallsDetermined : Type 0 where
  pub lending : (pool table result work : List ℕ) (p q : Bool) → need p 10 ≡ lent pool table result work → need q 10 ≡ lent pool table result work → p ≡ q
  -- of any call that writes records,
  pub writing : (w : Written) → OneWritten w
  -- so of `replace_in_type` and `replace_in_set` of `replace_calls`
  pub replacingInTypes : (pool table words bindings result work : List ℕ) → OneWritten (replaceTypeCall pool table words bindings result work)
  pub replacingInSets : (pool table words bindings result work : List ℕ) → OneWritten (replaceSetCall pool table words bindings result work)

pub record CallsNumbered : Type 0 where
  -- no is 10
  pub lending : (pool table result work : List ℕ) (p : Bool) → need p 10 ≡ lent pool table result work
      → numberLent p ≡ number (checked (lent pool table result work))
  pub writing : (w : Written) → NumberedAs w
  pub replacingInTypes : (pool table words bindings result work : List ℕ) → NumberedAs (replaceTypeCall pool table words bindings result work)
  pub replacingInSets : (pool table words bindings result work : List ℕ) → NumberedAs (replaceSetCall pool table words bindings result work)
