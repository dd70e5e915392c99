-- What entering a new name does to a table: one name more, all others as they were, and the table stays well formed.
use Rattle.std.specs.Prelude.{◌≡◌, ℕ, ◌≤◌, take}
use mathlib.Core.List.{List}
use Rattle.std.proofs.Math.ListN.{length}

-- two lendings that are long enough and begin alike
pub record SameFront (pool table pool' table' : List ℕ) : Type 0 where
  pub bytes : 8192 ≤ length pool
  pub words : 257 ≤ length table
  pub bytes' : 8192 ≤ length pool'
  pub words' : 257 ≤ length table'
  pub pools : take 8192 pool ≡ take 8192 pool'
  pub tables : take 257 table ≡ take 257 table'
