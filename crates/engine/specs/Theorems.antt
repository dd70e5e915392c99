-- What the contract of the second engine decides. The functions of src/theorems promise these statements; the proofs stand in
-- proofs/Determined.
use Rattle.std.specs.Prelude.{◌≡◌, List, ℕ}
use Rattle.rules.specs.Numbers.{number, eliminated}
use Rattle.rules.specs.Elimination.{eliminateCall}
use Rattle.engine.specs.Told.{Answer, numberEliminated, eliminationAs}

-- two answers with their buffers are the same
pub record OneResult (a b : Answer) (result result' work work' : List ℕ) : Type 0 where
  pub outcomes : a ≡ b
  pub results : result ≡ result'
  pub works : work ≡ work'

-- the contract of `eliminate` leaves no choice: two results that it allows coincide
abbrev pub EliminateDetermined : Type 0
EliminateDetermined = (pool table set result work : List ℕ) (p q : Answer) (a b c d : List ℕ)
    → eliminationAs p a c ≡ eliminateCall pool table set result work → eliminationAs q b d ≡ eliminateCall pool table set result work
    → OneResult p q a b c d

-- and the answer has the number of its outcome: 5 where constraints remain
abbrev pub EliminateNumbered : Type 0
EliminateNumbered = (pool table set result work : List ℕ) (p : Answer) (a c : List ℕ)
    → eliminationAs p a c ≡ eliminateCall pool table set result work
    → numberEliminated p ≡ number (eliminated (eliminateCall pool table set result work))
