-- One call that solves a set and confirms what it answers: an accepted answer goes to the judge, over the constraints that were solved,
-- and is handed over only on its yes.
use Rattle.std.specs.Prelude.{Bool, true, false, List, ℕ}
use Rattle.rules.specs.Base.{Got, got, refused, ◌>>=◌, ◌>>◌, bounded}
use Rattle.rules.specs.Trees.{Names, Con, Binding}
use Rattle.rules.specs.Names.{Table, table_of, numbersOf}
use Rattle.rules.specs.Solving.{Answer, accepted, remaining, stopped}
use Rattle.rules.specs.Judging.{judge}
use Rattle.rules.specs.Calls.{lent, setGiven, solvedSet, Solution, solvedOf, solvedWords, resultAfter, workAfter}

module _ {N : Type 0} where
  -- the judge's verdict on bindings and bounds that were found in k rounds: yes is the answer, no is 11, and what the judge refuses (7, 8) is refused.
  -- The rounds are those of solving, whatever the verdict
  unfoldable pub ruled : Got Bool → List (Binding N) → List N → ℕ → Answer N
  ruled (got true) bs ns k = accepted bs ns k
  ruled (got false) bs ns k = stopped 11 k
  ruled (refused n) bs ns k = stopped n k

module _ {N : Type 0} (ν : Names N) where
  -- only an accepted answer is judged: what remains (5) and what was refused stay as they are
  unfoldable pub confirmed : List (Con N) → Answer N → Answer N
  confirmed cs (accepted bs ns k) = ruled (judge ν bounded bs ns cs) bs ns k
  confirmed cs (remaining ds k) = remaining ds k
  confirmed cs (stopped n k) = stopped n k

-- the refusals at entry are those of solving: 8, 1, 4
unfoldable pub confirmedSet : Table → List ℕ → Got (Answer ℕ)
confirmedSet t set = do
  a ← solvedSet t set
  cs ← setGiven t set
  got (confirmed (numbersOf t) cs a)

-- 10 first; the buffers as solving leaves them: the result buffer begins with the answer or, on 5, with what remains, and is unchanged past it
-- and on every other refusal (11, too); the work buffer is all zero except for 10
unfoldable pub confirmCall : List ℕ → List ℕ → List ℕ → List ℕ → List ℕ → Solution
confirmCall pool table set result work = record {
  answer = solvedOf (lent pool table result work >> confirmedSet (table_of pool table) set);
  result = resultAfter (solvedWords (lent pool table result work >> confirmedSet (table_of pool table) set)) result;
  work = workAfter (lent pool table result work) work;
}
