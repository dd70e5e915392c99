-- Sheets of an edition, checked apart. The functions of src promise these statements; the words stand in rules' Apart and Reports, the proofs in proofs/.
use Rattle.std.specs.Prelude.{◌≡◌, false, List, [], ◌∷◌, ℕ}
use Rattle.std.proofs.Math.Option.{some}
use Rattle.rules.specs.Base.{got}
use Rattle.rules.specs.Names.{table_of, tableGiven}
use Rattle.rules.specs.Reports.{Page, Edition, editionGiven}
use Rattle.rules.specs.Apart.{File, fileAt, foundAt, metThree, pageAt, PagesAlike}

-- a file that stands in two editions, each read over a name table of its own: what becomes of it is the same, whatever stands beside it, where
-- neither of its two readings meets 3. Others may meet 3. How many of its names are new is no part of it, and may differ
abbrev pub SheetsApart : Type 0
SheetsApart = (pool table pool' table' : List ℕ) → tableGiven pool table ≡ got tt → tableGiven pool' table' ≡ got tt
    → (files files' : List File) (k k' : ℕ) (f : File) → fileAt files k ≡ some f → fileAt files' k' ≡ some f
    → metThree (foundAt (editionGiven pool table files) k) ≡ false → metThree (foundAt (editionGiven pool' table' files') k') ≡ false
    → foundAt (editionGiven pool table files) k ≡ foundAt (editionGiven pool' table' files') k'

-- an edition's sheet, and the same sheet by itself, over a table of its own
abbrev pub EachSheetAsAlone : Type 0
EachSheetAsAlone = (pool table pool' table' : List ℕ) → tableGiven pool table ≡ got tt → tableGiven pool' table' ≡ got tt
    → (files : List File) (k : ℕ) (f : File) → fileAt files k ≡ some f
    → metThree (foundAt (editionGiven pool table files) k) ≡ false → metThree (foundAt (editionGiven pool' table' (f ∷ [])) 0) ≡ false
    → foundAt (editionGiven pool table files) k ≡ foundAt (editionGiven pool' table' (f ∷ [])) 0

-- so its page is the same, byte for byte, except for how many of its names are new, and it is accepted in both editions or in neither
abbrev pub PagesApart : Type 0
PagesApart = (pool table pool' table' : List ℕ) → tableGiven pool table ≡ got tt → tableGiven pool' table' ≡ got tt
    → (files files' : List File) (k k' : ℕ) (f : File) (e e' : Edition) → e ≡ editionGiven pool table files → e' ≡ editionGiven pool' table' files'
    → fileAt files k ≡ some f → fileAt files' k' ≡ some f
    → metThree (foundAt e k) ≡ false → metThree (foundAt e' k') ≡ false
    → (p p' : Page) → pageAt e k ≡ some p → pageAt e' k' ≡ some p' → PagesAlike (table_of e.pool e.table) (table_of e'.pool e'.table) p p'
