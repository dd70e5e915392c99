-- What the contract of solving decides. The functions of src/theorems promise these statements; the proofs stand in proofs/Determined.
use Rattle.std.specs.Prelude.{◌≡◌, List, ℕ}
use Rattle.rules.specs.Calls.{solveCall}
use Rattle.rules.specs.Numbers as numbers
use Rattle.rules.specs.Numbers.{number}
use Rattle.solve.specs.declared.Solution.{Solution}
use Rattle.solve.specs.Told.{numberOutcome, solutionAs}

-- two answers with their buffers are the same
pub record OneResult (a b : Solution) (result result' work work' : List ℕ) : Type 0 where
  pub outcomes : a.outcome ≡ b.outcome
  pub rounds : a.rounds ≡ b.rounds
  pub results : result ≡ result'
  pub works : work ≡ work'

-- the contract of `solve` leaves no choice: two results that it allows coincide
abbrev pub SolveDetermined : Type 0
SolveDetermined = (pool table set result work : List ℕ) (p q : Solution) (a b c d : List ℕ)
    → solutionAs p a c ≡ solveCall pool table set result work → solutionAs q b d ≡ solveCall pool table set result work → OneResult p q a b c d

-- and the answer has the number of its outcome: 5 where constraints remain
abbrev pub SolveNumbered : Type 0
SolveNumbered = (pool table set result work : List ℕ) (p : Solution) (a c : List ℕ)
    → solutionAs p a c ≡ solveCall pool table set result work
    → numberOutcome p.outcome ≡ number (numbers.solution (solveCall pool table set result work))
