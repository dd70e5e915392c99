-- What is promised of batches, on the words of a call. The functions of src/theorems promise these statements; their words stand in Promise and in
-- rules' Batches and Calls, the proofs in proofs/Promise.
use Rattle.std.specs.Prelude.{◌≡◌, List, ℕ, ◌*◌, ◌<◌, length, take, drop, Result}
use Rattle.rules.specs.Base.{got}
use Rattle.rules.specs.Calls.{lent, solveCall}
use Rattle.rules.specs.Names.{table_of}
use Rattle.rules.specs.Numbers.{number, batch}
use Rattle.rules.specs.Refusals.{numberAnswer}
use Rattle.rules.specs.declared.Refusal.{Refusal}
use Rattle.rules.specs.Batches.{batchLent, batchFits, recordsOf, batchCall}
use Rattle.solve_batch.specs.Promise.{set_at, place_of, AsAlone}
use Rattle.solve_batch.specs.Told.{batchAs}

-- each set's four words and records are those that `solve` gives for it in a fresh buffer, whatever the other sets are
abbrev pub EachAsAlone : Type 0
EachAsAlone = (pool table words lengths result answers work : List ℕ)
    → batchLent pool table lengths result answers work ≡ got tt → batchFits words lengths ≡ got tt
    → (i : ℕ) → i < length lengths → (fresh w : List ℕ) → lent pool table fresh w ≡ got tt
    → AsAlone pool table (set_at words lengths i) i (place_of (table_of pool table) words lengths i)
    (batchCall pool table words lengths result answers work).answers (batchCall pool table words lengths result answers work).result fresh w

-- the order of the sets, and what else is in a batch, only moves a set's answer: two batches over one table that hold the same set tell the same of it, in four
-- words and in its records
abbrev pub OnlyMoved : Type 0
OnlyMoved = (pool table words lengths result answers work words' lengths' result' answers' work' : List ℕ) (i j : ℕ)
    → batchLent pool table lengths result answers work ≡ got tt → batchFits words lengths ≡ got tt → i < length lengths
    → batchLent pool table lengths' result' answers' work' ≡ got tt → batchFits words' lengths' ≡ got tt → j < length lengths'
    → set_at words lengths i ≡ set_at words' lengths' j → (fresh w : List ℕ) → lent pool table fresh w ≡ got tt
    → let n = recordsOf (solveCall pool table (set_at words lengths i) fresh w).answer in
    (take 4 (drop (i * 4) (batchCall pool table words lengths result answers work).answers)
    ≡ take 4 (drop (j * 4) (batchCall pool table words' lengths' result' answers' work').answers))
    × (take (n * 4) (drop (place_of (table_of pool table) words lengths i * 4) (batchCall pool table words lengths result answers work).result)
    ≡ take (n * 4) (drop (place_of (table_of pool table) words' lengths' j * 4) (batchCall pool table words' lengths' result' answers' work').result))

-- two results of the call are the same: the answer and every buffer
pub record OneResult (a b : Result ℕ Refusal) (result result' answers answers' work work' : List ℕ) : Type 0 where
  pub answer : a ≡ b
  pub results : result ≡ result'
  pub told : answers ≡ answers'
  pub works : work ≡ work'

-- the contract of the call leaves no choice: two results that it allows coincide
abbrev pub BatchDetermined : Type 0
BatchDetermined = (pool table sets lengths result answers work : List ℕ) (p q : Result ℕ Refusal) (a b c d e f : List ℕ)
    → batchAs p a c e ≡ batchCall pool table sets lengths result answers work → batchAs q b d f ≡ batchCall pool table sets lengths result answers work
    → OneResult p q a b c d e f

-- and the answer has the number of its outcome
abbrev pub BatchNumbered : Type 0
BatchNumbered = (pool table sets lengths result answers work : List ℕ) (p : Result ℕ Refusal) (a c e : List ℕ)
    → batchAs p a c e ≡ batchCall pool table sets lengths result answers work
    → numberAnswer p ≡ number (batch (batchCall pool table sets lengths result answers work))
