-- A sheet whose buffers are long enough: what is answered, from what its parts did.
use Rattle.std.specs.Prelude.{◌≡◌, ℕ, Ok, Err}
use mathlib.Core.List.{List}
use Rattle.rules.specs.Names.{table_of}
use Rattle.rules.specs.Refusals.{number_of}
use Rattle.rules.specs.Calls.{tableKept}
use Rattle.rules.specs.TextReading.{sheetRead, ReadAnswer, wasRead, notRead, TextRead, handed, fromEntry}
use Rattle.text_sheet.specs.Loop.{Sheet}

abbrev pub toldSheet : Sheet → ReadAnswer
toldSheet (Ok r) = wasRead r.records r.constraints r.names
toldSheet (Err e) = notRead (number_of e.why) e.line e.column

-- the answer, and what all that is lent holds then
abbrev pub readAs : Sheet → List ℕ → List ℕ → List ℕ → List ℕ → TextRead
readAs r pool table result work = record { answer = toldSheet r; pool = pool; table = table; result = result; work = work }

-- past the check of 10 the answer is that of the definition, whatever is left in the work buffer
pub record Answers (pool table text result pool' table' result' : List ℕ) (r : Sheet) : Type 0 where
  pub is : (work : List ℕ) → readAs r pool' table' result' work ≡ handed pool table result work
      (fromEntry (tableKept (table_of pool table)) (sheetRead pool table text))
