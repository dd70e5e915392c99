-- What is known of a set that was given.
use Rattle.std.specs.Prelude.{Result, Ok, ◌≡◌, List, ℕ, ◌≤◌, length}
use Rattle.rules.specs.Base.{got}
use Rattle.rules.specs.Calls.{setGiven}
use Rattle.rules.specs.Names.{table_of}
use Rattle.rules.specs.declared.Refusal.{Refusal}
use Rattle.names.specs.declared.tables.NameTable.{NameTable}
use Rattle.types.specs.declared.GivenSet.{GivenSet}
use Rattle.types.specs.Given.{constraints_in, set_over}
use Rattle.types.proofs.Tested.{given}

pub record Given (ws : List ℕ) (s : GivenSet) : Type 0 where
  pub short : length ws ≤ 8192
  pub is : setGiven (table_of s.names.pool.now s.names.table.now) ws ≡ got (constraints_in s)

pub given-in : (names : Result NameTable Refusal) (ws : List ℕ) (s : GivenSet) → names ≡ Ok s.names → got (constraints_in s) ≡ set_over names ws → Given ws s
given-in names ws s i e = let g = given ws setGiven names s.names i (constraints_in s) e in record { short = g.0; is = g.1 }
