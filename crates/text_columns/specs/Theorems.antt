-- What the functions of src promise; the proofs stand in Told, Left and Sound.
use Rattle.std.specs.Prelude.{◌≡◌, ℕ, suc, ◌+◌, ◌≤◌, List, length}
use Rattle.rules.specs.Base.{got, collect}
use Rattle.rules.specs.Calls.{setGiven}
use Rattle.rules.specs.Names.{Bytes, Table, table_of, tableGiven}
use Rattle.rules.specs.Trees.{Con}
use Rattle.rules.specs.Writing.{words, writeCon}
use Rattle.rules.specs.TextReading.{Sofar, refusedAt, lineRead, sheet, refusedIn, sheetRead}

-- the column of a line that is refused is one of the line's, or that of its end
abbrev pub ColumnInLine : Type 0
ColumnInLine = (l : Bytes) (s : Sofar) (n c : ℕ) → lineRead l s ≡ refusedAt n c → c ≤ suc (length l)

-- a sheet that was read: over whatever table, its words hold this set and no other. A table that was well formed still is, and over it they hold the set
pub record IsLeft (pool table : List ℕ) (cs : List (Con ℕ)) (s : Sofar) : Type 0 where
  pub back : (t : Table) (ds : List (Con ℕ)) → setGiven t (words (collect writeCon cs)) ≡ got ds → ds ≡ cs
  pub few : length cs ≤ 2048
  pub tables : tableGiven pool table ≡ got tt → (tableGiven s.pool s.table ≡ got tt) × (s.fresh ≤ 256)
  pub sound : tableGiven pool table ≡ got tt → setGiven (table_of s.pool s.table) (words (collect writeCon cs)) ≡ got cs

abbrev pub ReadIsReadBack : Type 0
ReadIsReadBack = (pool table text : List ℕ) (cs : List (Con ℕ)) (s : Sofar) → sheetRead pool table text ≡ sheet cs s → IsLeft pool table cs s

-- one that was refused: its line and its column are places of the text, or of its end
abbrev pub PlaceInText : Type 0
PlaceInText = (pool table text : List ℕ) (n l c : ℕ) → sheetRead pool table text ≡ refusedIn n l c → (l ≤ length text + 1) × (c ≤ length text + 1)
