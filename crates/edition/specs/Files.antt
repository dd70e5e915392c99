-- The sheets of an edition as they are read, one file after another, and their pages.
use Rattle.std.specs.Prelude.{◌≡◌, List, [], ◌∷◌, map, ℕ, Result, Ok, Err}
use Rattle.rules.specs.Base.{Got, got, refused}
use Rattle.rules.specs.Names.{Bytes}
use Rattle.rules.specs.Refusals.{number_of}
use Rattle.rules.specs.Reports.{Page, Edition, onPage, readOn, editionGiven}
use Rattle.rules.specs.declared.Unseen.{Unseen}
use Rattle.laws.specs.NameTable.{Good}
use Rattle.edition.specs.Pages.{IsPage}
use Rattle.edition.specs.declared.model.File.{File}
use Rattle.edition.specs.declared.model.Sheet.{Sheet}
use Rattle.edition.specs.declared.model.Content.TheVariants as content
use Rattle.edition.specs.declared.intake.Unready.{Unready}
use Rattle.edition.specs.declared.intake.Unready.TheVariants as unready

-- what is had of a file
abbrev pub text_of : File → Result Bytes Unseen
text_of f = elim f.text [ Ok s ↦ Ok s.now | Err u ↦ Err u ]

abbrev pub files_of : List File → List (Bytes × Result Bytes Unseen)
files_of fs = map (λ f. (f.name.now, text_of f)) fs

abbrev pub IsSheet : Sheet → Page → Type 0
IsSheet x p = IsPage x.name.now x.text.now x.content x.records.items p

-- sheets and their pages
abbrev pub HoldsAll : List Sheet → List Page → Type 0
HoldsAll [] [] = Unit {0}
HoldsAll [] (p ∷ ps) = ⊥
HoldsAll (x ∷ xs) [] = ⊥
HoldsAll (x ∷ xs) (p ∷ ps) = IsSheet x p × HoldsAll xs ps

-- ══ A file that is read ══

-- its page, and the names that are left: what follows is read over them
pub record FileRead (file : File) (pool table pool' table' : List ℕ) (x : Sheet) : Type 0 where
  pub page : Page
  pub is : IsSheet x page
  pub after : (f : List ℕ → List ℕ → Edition) → readOn file.name.now (text_of file) pool table f ≡ onPage page (f pool' table')
  pub good : Good pool' table'

-- all of them are
pub record ReadAll (pool table : List ℕ) (files : List File) (xs : List Sheet) (pool' table' : List ℕ) : Type 0 where
  pub holds : HoldsAll xs (editionGiven pool table (files_of files)).pages
  pub pools : pool' ≡ (editionGiven pool table (files_of files)).pool
  pub tables : table' ≡ (editionGiven pool table (files_of files)).table
  pub good : Good pool' table'

-- ══ The answers ══

-- the sheet of a file that can't be had
pub record IsUnseen (name : Bytes) (why : Unseen) (x : Sheet) : Type 0 where
  pub named : x.name.now ≡ name
  pub empty : x.text.now ≡ []
  pub holds : x.content ≡ content.Unseen why

-- all files are read; or the table is not well formed, and nothing is changed; or there is no memory
abbrev pub Reads : {V : Type 0} → (V → List Sheet) → Result V Unready → Got (Unit {0}) → List ℕ → List ℕ → List File → List ℕ → List ℕ → Type 0
Reads items (Ok xs) m pool table files pool' table' = (m ≡ got tt) × ReadAll pool table files (items xs) pool' table'
Reads items (Err (unready.Names why)) m pool table files pool' table' = (m ≡ refused (number_of why)) × ((pool' ≡ pool) × (table' ≡ table))
Reads items (Err (unready.Memory e)) m pool table files pool' table' = m ≡ got tt
