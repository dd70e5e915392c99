-- What a table of names holds: its ends and starts, and what a table that passed the test is.
use Rattle.std.specs.Prelude.{◌≡◌, true}
use mathlib.Core.List.{List}
use Prim.Native.Nat.{ℕ, zero, suc, ◌≤◌}
use Rattle.std.proofs.Math.ListN.{length, take, drop, get_or}
use Rattle.rules.specs.Names.{table_of, lengthsGood, tableGood}

-- ══ The ends as words of the table ══

unfoldable pub endsOf : List ℕ → List ℕ
endsOf table = take (get_or table 0 0) (take 256 (drop 1 table))

-- where the name with the number k starts: the word of the end before, and 0 for the first
abbrev pub start_at : List ℕ → ℕ → ℕ
start_at table zero = 0
start_at table (suc k) = get_or table (suc k) 0

-- ══ The names one by one ══

-- pool and table long enough, and ends that rise: all that search needs
pub record Laid (pool table : List ℕ) : Type 0 where
  pub bytes : 8192 ≤ length pool
  pub words : 257 ≤ length table
  pub few : get_or table 0 0 ≤ 256
  pub rising : lengthsGood 0 (endsOf table) ≡ true

-- ══ A table that passed the test ══

pub record Good (pool table : List ℕ) : Type 0 where
  pub bytes : 8192 ≤ length pool
  pub words : 257 ≤ length table
  pub good : tableGood (table_of pool table) ≡ true
