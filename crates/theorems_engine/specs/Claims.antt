-- The words of the theorems: two engines that agree, and a set that doesn't fit the second.
use Rattle.std.specs.Prelude.{◌≡◌, ◌⊎◌, List, ℕ}
use Rattle.rules.specs.Base.{got, refused}
use Rattle.rules.specs.Trees.{Con}
use Rattle.rules.specs.Names.{table_of, numbersOf}
use Rattle.rules.specs.Calls.{lent, solveCall, solved, unsolved, refusedAfter}
use Rattle.rules.specs.Elimination.{fitting, setChecked, eliminateCall, withRounds, allBound, someLeft, refusedWith}

-- the engine's answer is the solver's without the rounds, and both leave the same behind
pub record Agree (pool table set result work : List ℕ) : Type 0 where
  pub rounds : ℕ
  pub answer : (solveCall pool table set result work).answer ≡ withRounds rounds (eliminateCall pool table set result work).answer
  pub results : (solveCall pool table set result work).result ≡ (eliminateCall pool table set result work).result
  pub works : (solveCall pool table set result work).work ≡ (eliminateCall pool table set result work).work

-- the set passed the checks at entry, and doesn't fit the engine: 8
pub record Unfit (pool table set result work : List ℕ) : Type 0 where
  pub cs : List (Con ℕ)
  pub long : lent pool table result work ≡ got tt
  pub checked : setChecked (table_of pool table) set ≡ got cs
  pub unfit : fitting (numbersOf (table_of pool table)) cs ≡ refused 8

-- 'both refuse alike with 1, 4 or 10, or both accept with the same bindings in the same order, or both answer 5 with the same remaining
-- constraints': the records stand in the result buffers
pub data Alike (pool table set result work : List ℕ) : Type 0 where
  refuse-alike : {n k : ℕ} → (n ≡ 1) ⊎ ((n ≡ 4) ⊎ (n ≡ 10)) → (eliminateCall pool table set result work).answer ≡ refusedWith n
      → (solveCall pool table set result work).answer ≡ refusedAfter n k
      → Alike pool table set result work
  accept-alike : {n k : ℕ} → (eliminateCall pool table set result work).answer ≡ allBound n → (solveCall pool table set result work).answer ≡ solved n 0 k
      → (solveCall pool table set result work).result ≡ (eliminateCall pool table set result work).result → Alike pool table set result work
  remain-alike : {n k : ℕ} → (eliminateCall pool table set result work).answer ≡ someLeft n → (solveCall pool table set result work).answer ≡ unsolved n k
      → (solveCall pool table set result work).result ≡ (eliminateCall pool table set result work).result → Alike pool table set result work
