-- Several sets over one name table, back to back, solved in one call.
use Rattle.std.specs.Prelude.{List, [], ◌∷◌, map, ℕ, ◌+◌, ◌*◌, eqb, leb, length, take, drop}
use Rattle.rules.specs.Base.{Got, got, refused, ◌>>=◌, ◌>>◌, need, collect, sum_of}
use Rattle.rules.specs.Names.{Table, table_of, lentTable}
use Rattle.rules.specs.Solving.{Answer}
use Rattle.rules.specs.Calls.{lentWork, over, workAfter, Solved, solved, unsolved, refusedAfter, solvedOf, solvedWords, solvedSet}

-- 'back to back with their lengths': the words of each set, whose length is given in records
unfoldable pub cutSets : List ℕ → List ℕ → List (List ℕ)
cutSets [] ws = []
cutSets (n ∷ ns) ws = take (n * 4) ws ∷ cutSets ns (drop (n * 4) ws)

-- four words a set: the refusal or 0, the completed rounds, the records of bindings (on 5: of what remains), the records of bounds
unfoldable pub fourWords : Solved → List ℕ
fourWords (solved b n k) = 0 ∷ k ∷ b ∷ n ∷ []
fourWords (unsolved n k) = 5 ∷ k ∷ n ∷ 0 ∷ []
fourWords (refusedAfter r k) = r ∷ k ∷ 0 ∷ 0 ∷ []

-- how many records a set's answer has
unfoldable pub recordsOf : Solved → ℕ
recordsOf (solved b n k) = b + n
recordsOf (unsolved n k) = n
recordsOf (refusedAfter r k) = 0

-- the words that it writes: none on a refusal other than 5
unfoldable pub answeredWords : Got (List ℕ) → List ℕ
answeredWords (got ws) = ws
answeredWords (refused n) = []

-- how many records were written in all, or the refusal of the whole call; and the three buffers
pub record Batch : Type 0 where
  pub answer : Got ℕ
  pub result : List ℕ
  pub answers : List ℕ
  pub work : List ℕ

-- 'each answer equals that of solving the set by itself; a refused set doesn't stop those after it'
unfoldable pub eachSolved : Table → List ℕ → List ℕ → List (Got (Answer ℕ))
eachSolved t sets lengths = map (solvedSet t) (cutSets lengths sets)

-- 'up to 64 sets', 8; 'lengths that don't add up to the list', 1
unfoldable pub batchFits : List ℕ → List ℕ → Got (Unit {0})
batchFits sets lengths = need (leb (length lengths) 64) 8 >> need (eqb (sum_of (λ n. n) lengths * 4) (length sets)) 1

-- words behind one another at the front of a buffer, unless the whole call is refused
unfoldable pub writtenOver : {A : Type 0} → Got (Unit {0}) → (A → List ℕ) → List A → List ℕ → List ℕ
writtenOver (got u) f as' buffer = over (collect f as') buffer
writtenOver (refused n) f as' buffer = buffer

module _ (pool table : List ℕ) where
  -- 10: 'the result room asked for is 2,048 records per set'; four words a set in `answers`
  unfoldable pub batchLent : List ℕ → List ℕ → List ℕ → List ℕ → Got (Unit {0})
  batchLent lengths result answers work = do
    lentTable pool table
    need (leb (length lengths * 8192) (length result)) 10
    need (leb (length lengths * 4) (length answers)) 10
    lentWork work

  unfoldable pub batchCall : List ℕ → List ℕ → List ℕ → List ℕ → List ℕ → Batch
  batchCall sets lengths result answers work = record {
    answer = given >>= λ u. got (sum_of (λ a. recordsOf (solvedOf a)) all);
    result = writtenOver given (λ a. answeredWords (solvedWords a)) all result;
    answers = writtenOver given (λ a. fourWords (solvedOf a)) all answers;
    work = workAfter (batchLent lengths result answers work) work;
  }
    where
      given : Got (Unit {0})
      given = batchLent lengths result answers work >> batchFits sets lengths

      all : List (Got (Answer ℕ))
      all = eachSolved (table_of pool table) sets lengths
