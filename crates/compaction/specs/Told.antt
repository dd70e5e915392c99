-- The answer with all that is changed in place, and what the steps make.
use Rattle.std.specs.Prelude.{◌≡◌, Bool, false, ◌&&◌, ◌||◌, eqb, ltb, List, ℕ, ◌*◌, ◌<◌, length, get_or, Result}
use Rattle.rules.specs.Base.{Got, got, ◌>>◌, need, sum_of}
use Rattle.rules.specs.Batches.{cutSets}
use Rattle.rules.specs.Calls.{setGiven}
use Rattle.rules.specs.Names.{Table, table_of, names_of, held, used}
use Rattle.rules.specs.Refusals.{told}
use Rattle.rules.specs.declared.Refusal.{Refusal}
use Rattle.rules.specs.Compaction.{Compacted, keeps, newNumber, eachGiven, keptFrom, poolOf, endsOver}

abbrev pub compactedAs : Result ℕ Refusal → List ℕ → List ℕ → List ℕ → Compacted
compactedAs r pool table sets = record { answer = told r; pool = pool; table = table; sets = sets }

-- is this a well formed set, and these sets (1)?
abbrev pub metSet : Table → List ℕ → Got (Unit {0})
metSet t ws = setGiven t ws >> got tt

abbrev pub metSets : Table → List ℕ → List ℕ → Got (Unit {0})
metSets t lengths ws = need (eqb (sum_of (λ n. n) lengths * 4) (length ws)) 1 >> eachGiven t (cutSets lengths ws)

-- the marked numbers
abbrev pub marks : List Bool → ℕ → Bool
marks m i = get_or m i false

-- one name more is marked, if it is one and held
pub record Noted (m m' : List Bool) (n : ℕ) (named : Bool) (a : ℕ) : Type 0 where
  pub long : length m' ≡ length m
  pub is : (i : ℕ) → marks m' i ≡ (marks m i || (ltb i n && (named && eqb a i)))

pub record Marked (m m' : List Bool) (n : ℕ) (ws : List ℕ) : Type 0 where
  pub long : length m' ≡ length m
  pub is : (i : ℕ) → marks m' i ≡ (marks m i || keeps n ws i)

-- the numbers below n have their new numbers here
pub record Numbered (p : ℕ → Bool) (to : List ℕ) (n : ℕ) : Type 0 where
  pub long : length to ≡ 256
  pub is : (i : ℕ) → i < n → get_or to i 0 ≡ newNumber p i

-- what is left of pool and table when the names p are kept, and how many these are
pub record Squeezed (p : ℕ → Bool) (pool table pool' table' : List ℕ) (r : ℕ) : Type 0 where
  pub many : r ≡ length (keptFrom p 0 (names_of (table_of pool table)))
  pub bytes : pool' ≡ poolOf (keptFrom p 0 (names_of (table_of pool table))) (used 0 (held (table_of pool table))) pool
  pub ends : table' ≡ endsOver (keptFrom p 0 (names_of (table_of pool table))) (table_of pool table).count table
