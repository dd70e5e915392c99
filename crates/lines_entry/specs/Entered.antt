-- All checks of a line before its constraints: 8, 1, 4, 3.
use Rattle.std.specs.Prelude.{Result, Ok, Err, ℕ}
use mathlib.Core.List.{List}
use Rattle.rules.specs.Base.{Got, got, refused, ◌>>=◌, ◌>>◌, need, all}
use Rattle.rules.specs.Names.{Table, table_of, is_held}
use Rattle.rules.specs.Refusals.{number_of}
use Rattle.rules.specs.declared.Refusal.{Refusal}
use Rattle.rules.specs.Calls.{tableKept}
use Rattle.names.specs.declared.tables.NameTable.{NameTable}
use Rattle.rules.specs.Steps.{LineStep, lineGiven}
use Rattle.rules.specs.Lines.{fresh, lineShort}

-- the steps of a line that passed every check at entry
unfoldable pub lineEntered : Table → List ℕ → List ℕ → List ℕ → List ℕ → Got (List (LineStep ℕ))
lineEntered t steps types lines names = do
  lineShort steps types lines names
  tableKept t
  ss ← lineGiven t steps types lines
  need (fresh names ss) 4
  need (all (is_held t) names) 3
  got ss

-- the same over a table that was tested before; and where it was refused, 8 and then its refusal
abbrev pub entered_over : Result NameTable Refusal → List ℕ → List ℕ → List ℕ → List ℕ → Got (List (LineStep ℕ))
entered_over (Ok n) steps types lines names = lineEntered (table_of n.pool.now n.table.now) steps types lines names
entered_over (Err why) steps types lines names = lineShort steps types lines names >> refused (number_of why)
