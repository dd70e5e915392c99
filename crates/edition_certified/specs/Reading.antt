-- A text that is read over the names so far, and its records.
use Rattle.std.specs.Prelude.{◌≡◌, List, ℕ, Result, Ok, Err, Vec}
use Rattle.std.specs.declared.alloc.Global.{Global}
use Rattle.rules.specs.Base.{collect}
use Rattle.rules.specs.Refusals.{number_of}
use Rattle.rules.specs.TextReading.{Sheet, sheet, refusedIn, Sofar}
use Rattle.rules.specs.Trees.{Con}
use Rattle.rules.specs.Writing.{words, writeCon}
use Rattle.laws.specs.NameTable.{Good}
use Rattle.text_sheet.specs.declared.NotRead.{NotRead}

pub record KeptAs (pool table ws : List ℕ) (cs : List (Con ℕ)) (s : Sofar) : Type 0 where
  pub is : ws ≡ words (collect writeCon cs)
  pub pools : pool ≡ s.pool
  pub tables : table ≡ s.table
  pub good : Good pool table

pub record StoppedAs (e : NotRead) (n l c : ℕ) : Type 0 where
  pub why : number_of e.why ≡ n
  pub line : e.line ≡ l
  pub column : e.column ≡ c

abbrev pub Kept : List ℕ → List ℕ → Result (Vec ℕ Global) NotRead → Sheet → Type 0
Kept pool table (Ok v) (sheet cs s) = KeptAs pool table v.items cs s
Kept pool table (Ok v) (refusedIn n l c) = ⊥
Kept pool table (Err e) (sheet cs s) = ⊥
Kept pool table (Err e) (refusedIn n l c) = StoppedAs e n l c
