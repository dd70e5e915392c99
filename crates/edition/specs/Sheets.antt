-- A sheet that is read: its records, and the names that it leaves.
use Rattle.std.specs.Prelude.{◌≡◌, List, ℕ, length, Result, Ok, Err}
use Rattle.rules.specs.Base.{collect}
use Rattle.rules.specs.Refusals.{number_of}
use Rattle.rules.specs.TextReading.{Sheet, sheet, refusedIn, Sofar}
use Rattle.rules.specs.Trees.{Con}
use Rattle.rules.specs.Writing.{words, writeCon}
use Rattle.text_sheet.specs.declared.Read.{Read}
use Rattle.text_sheet.specs.declared.NotRead.{NotRead}

-- a sheet that is read: so many constraints, so many new names, its records, and the table with its names
pub record IsRead (pool' table' ws : List ℕ) (r : Read) (cs : List (Con ℕ)) (s : Sofar) : Type 0 where
  pub many : r.constraints ≡ length cs
  pub new : r.names ≡ s.fresh
  pub is : ws ≡ words (collect writeCon cs)
  pub pools : pool' ≡ s.pool
  pub tables : table' ≡ s.table

-- one that is refused: where, and it leaves no name
pub record IsRefused (pool table pool' table' : List ℕ) (e : NotRead) (n l c : ℕ) : Type 0 where
  pub why : number_of e.why ≡ n
  pub line : e.line ≡ l
  pub column : e.column ≡ c
  pub pools : pool' ≡ pool
  pub tables : table' ≡ table

abbrev pub ReadTo : List ℕ → List ℕ → List ℕ → List ℕ → List ℕ → Result Read NotRead → Sheet → Type 0
ReadTo pool table pool' table' ws (Ok r) (sheet cs s) = IsRead pool' table' ws r cs s
ReadTo pool table pool' table' ws (Ok r) (refusedIn n l c) = ⊥
ReadTo pool table pool' table' ws (Err e) (sheet cs s) = ⊥
ReadTo pool table pool' table' ws (Err e) (refusedIn n l c) = IsRefused pool table pool' table' e n l c
