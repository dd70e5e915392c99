-- What a batch promises: each set is answered as `solve` answers it by itself, whatever the other sets are. The words of it; the statements stand in
-- Theorems, the proofs in proofs/Promise.
use Rattle.std.specs.Prelude.{◌≡◌, List, [], ℕ, ◌*◌, take, drop, get_or}
use Rattle.rules.specs.Base.{sum_of}
use Rattle.rules.specs.Calls.{solveCall}
use Rattle.rules.specs.Names.{Table}
use Rattle.rules.specs.Batches.{cutSets, eachSolved, fourWords, recordsOf}
use Rattle.laws.specs.Answers.{manyOf}

-- the i-th set
unfoldable pub set_at : List ℕ → List ℕ → ℕ → List ℕ
set_at words lengths i = get_or (cutSets lengths words) i []

-- where its records begin in the result buffer: behind those of all sets before it
unfoldable pub place_of : Table → List ℕ → List ℕ → ℕ → ℕ
place_of t words lengths i = sum_of manyOf (take i (eachSolved t words lengths))

-- a set's four words and records in the buffers of a batch are those that `solve` gives for it in a fresh buffer
pub record AsAlone (pool table set : List ℕ) (i place : ℕ) (answers result fresh work : List ℕ) : Type 0 where
  pub told : take 4 (drop (i * 4) answers) ≡ fourWords (solveCall pool table set fresh work).answer
  pub written : take (recordsOf (solveCall pool table set fresh work).answer * 4) (drop (place * 4) result)
      ≡ take (recordsOf (solveCall pool table set fresh work).answer * 4) (solveCall pool table set fresh work).result
