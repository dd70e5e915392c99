-- The words of the theorems on sheets: a set written and read again, what a refusal leaves, and the first bad line.
use Rattle.std.specs.Prelude.{◌≡◌, ℕ, suc, ◌*◌, ◌/◌, ◌≤◌, replicate}
use mathlib.Core.List.{List, [], ◌∷◌, ◌++◌}
use Rattle.std.proofs.Math.ListN.{length}
use Rattle.rules.specs.Base.{got}
use Rattle.rules.specs.Trees.{Con}
use Rattle.rules.specs.Names.{Bytes, table_of}
use Rattle.rules.specs.Calls.{over, setGiven}
use Rattle.rules.specs.Grammar.{lines_of}
use Rattle.rules.specs.TextReading.{Sofar, refusedAt, lineRead, sheet, refusedIn, sheetRead, wasRead, TextRead, readTextCall}
use Rattle.rules.specs.TextWriting.{writeTextCall}

-- a set as a text, and that text read again: as many records and constraints as the set has
pub record BackAgain (pool table set text result work : List ℕ) : Type 0 where
  pub bytes : Bytes
  pub cons : List (Con ℕ)
  pub given : setGiven (table_of pool table) set ≡ got cons
  pub written : writeTextCall pool table set text ≡ record { answer = got (length bytes); result = over bytes text }
  pub short : length bytes ≤ length set / 4 * 173
  pub again : readTextCall pool table bytes result work
      ≡ record { answer = wasRead (length set / 4) (length cons) 0; pool = pool; table = table; result = over set result; work = replicate (length work) 0 }

-- what a refusal leaves: pool, table and result as they were
pub record Unchanged (pool table result : List ℕ) (r : TextRead) : Type 0 where
  pub pools : r.pool ≡ pool
  pub tables : r.table ≡ table
  pub results : r.result ≡ result

-- lines with their line feeds
unfoldable pub joined : List Bytes → Bytes
joined [] = []
joined (l ∷ ls) = l ++ (10 ∷ joined ls)

-- the lines before the refused one are read, as a text of their own; that line is refused there; and whatever stands behind it doesn't matter
pub record RefusedText (pool table : List ℕ) (text : Bytes) (n k c : ℕ) : Type 0 where
  pub before : List Bytes
  pub bad : Bytes
  pub after : List Bytes
  pub lines : lines_of text ≡ before ++ (bad ∷ after)
  pub number : k ≡ suc (length before)
  pub cons : List (Con ℕ)
  pub sofar : Sofar
  pub read-before : sheetRead pool table (joined before) ≡ sheet cons sofar
  pub refuses : lineRead bad sofar ≡ refusedAt n c
  pub whatever : (rest : Bytes) → sheetRead pool table (joined before ++ (bad ++ (10 ∷ rest))) ≡ refusedIn n k c
