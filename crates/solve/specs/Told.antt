-- The answer of solving with its two buffers as the rules tell them.
use Rattle.std.specs.Prelude.{◌≡◌, Result, Ok, Err, List, ℕ}
use Rattle.rules.specs.Base.{Got, got, refused, ◌>>◌}
use Rattle.rules.specs.Calls as calls
use Rattle.rules.specs.Calls.{lent, solvedOf, solvedWords, solvedSet, resultAfter}
use Rattle.rules.specs.Names.{table_of}
use Rattle.rules.specs.Refusals.{number_of}
use Rattle.rules.specs.Solving.{Answer, accepted, remaining, stopped}
use Rattle.rules.specs.declared.Refusal.{Refusal}
use Rattle.rules.specs.declared.Refusal.TheVariants as refusal
use Rattle.solve_finish.specs.Told.{toldFinish, Rows}
use Rattle.solve_finish.specs.declared.Finish.{Finish}
use Rattle.solve_finish.specs.declared.Finish.TheVariants.{Solved, Unsolved}
use Rattle.solve.specs.declared.Solution.{Solution}

abbrev pub toldOutcome : Result Finish Refusal → ℕ → calls.Solved
toldOutcome (Ok f) k = toldFinish f k
toldOutcome (Err r) k = calls.refusedAfter (number_of r) k

-- its number: 0 where the set is solved, 5 where constraints remain
abbrev pub numberOutcome : Result Finish Refusal → ℕ
numberOutcome (Ok (Solved b n)) = 0
numberOutcome (Ok (Unsolved n)) = number_of refusal.Unsolved
numberOutcome (Err r) = number_of r

abbrev pub refusedAs : Refusal → ℕ → Solution
refusedAs r k = record { outcome = Err r; rounds = k }

abbrev pub toldSolution : Solution → calls.Solved
toldSolution s = toldOutcome s.outcome s.rounds

-- the answer, and what the result and the work buffer hold then
abbrev pub solutionAs : Solution → List ℕ → List ℕ → calls.Solution
solutionAs s result work = record { answer = toldSolution s; result = result; work = work }

-- the outcome after k rounds is that of an answer, and the answer's rows stand at the front of a buffer
abbrev pub StandsBy : List ℕ → Result Finish Refusal → ℕ → Got (Answer ℕ) → Type 0
StandsBy s (Ok f) k (got a) = Rows s f k a
StandsBy s (Ok f) k (refused n) = ⊥
StandsBy s (Err r) k (got (accepted bs ns j)) = ⊥
StandsBy s (Err r) k (got (remaining cs j)) = ⊥
StandsBy s (Err r) k (got (stopped n j)) = (number_of r ≡ n) × (k ≡ j)
StandsBy s (Err r) k (refused n) = (number_of r ≡ n) × (k ≡ 0)

-- what solving leaves: bindings one after another from the front and bounds behind them; or the constraints that remain
pub record Stands (s : List ℕ) (solution : Solution) (a : Got (Answer ℕ)) : Type 0 where
  pub says : StandsBy s solution.outcome solution.rounds a

-- this is what was answered, and the result buffer holds it
pub record Answered (a : Got (Answer ℕ)) (result result' : List ℕ) (s : Solution) : Type 0 where
  pub stands : Stands result' s a
  pub answer : toldSolution s ≡ solvedOf a
  pub buffer : result' ≡ resultAfter (solvedWords a) result

-- the answer of the whole call: 10 where a buffer is short
abbrev pub answerTo : List ℕ → List ℕ → List ℕ → List ℕ → List ℕ → Got (Answer ℕ)
answerTo pool table ws result work = lent pool table result work >> solvedSet (table_of pool table) ws
