-- Where the set of a page comes from: it was read from the page's text, over names that are well formed.
use Rattle.std.specs.Prelude.{◌≡◌, refl, List, [], ◌∷◌, ℕ, Result, Ok, Err}
use Rattle.rules.specs.Base.{got}
use Rattle.rules.specs.Names.{Bytes, Table, table_of, tableGiven}
use Rattle.rules.specs.Reports.{Content, holding, refusing, lacking, Page, page_of, onPage, namesAfter, readOn, Edition, editionGiven}
use Rattle.rules.specs.TextReading.{Sheet, sheet, refusedIn, Sofar, sheetRead}
use Rattle.rules.specs.Trees.{Con}
use Rattle.rules.specs.declared.Unseen.{Unseen}
use Rattle.laws.specs.Lists.{Every}
use Rattle.laws.proofs.Lists.{every-as}
use Rattle.laws.specs.NameTable.{Good}
use Rattle.laws.proofs.NameTable.{given-good}
use Rattle.text_columns.proofs.Left.{read-keeps-good}

pub record Origin (text : Bytes) (cs : List (Con ℕ)) : Type 0 where
  pub pool : List ℕ
  pub table : List ℕ
  pub after : Sofar
  pub is : sheetRead pool table text ≡ sheet cs after

abbrev pub Rooted : Bytes → Content → Type 0
Rooted text (holding cs) = Origin text cs
Rooted text (refusing n l c) = Unit {0}
Rooted text (lacking u) = Unit {0}

abbrev pub RootedPage : Page → Type 0
RootedPage p = Rooted p.text p.content

-- each page's set was read from its text, and the table with all names is well formed
pub record Sound (e : Edition) : Type 0 where
  pub rooted : Every RootedPage e.pages
  pub good : Good e.pool e.table

text-sound : (name text : Bytes) (m : Sheet) (pool table : List ℕ) → Good pool table → sheetRead pool table text ≡ m → (e : List ℕ → List ℕ → Edition)
    → ((p t : List ℕ) → Good p t → Sound (e p t)) → Sound (onPage (page_of name text m) (namesAfter m pool table e))
unfolding page_of
text-sound name text (sheet cs s) pool table g q e again =
    let r = again s.pool s.table (read-keeps-good pool table text g q).0 in
    record { rooted = (record { pool = pool; table = table; after = s; is = q }, r.rooted); good = r.good }
text-sound name text (refusedIn n l c) pool table g q e again = let r = again pool table g in record { rooted = (tt, r.rooted); good = r.good }

file-sound : (name : Bytes) (given : Result Bytes Unseen) (pool table : List ℕ) → Good pool table → (e : List ℕ → List ℕ → Edition)
    → ((p t : List ℕ) → Good p t → Sound (e p t)) → Sound (readOn name given pool table e)
file-sound name (Ok text) pool table g e again = text-sound name text (sheetRead pool table text) pool table g refl e again
file-sound name (Err u) pool table g e again = let r = again pool table g in record { rooted = (tt, r.rooted); good = r.good }

pub sound : (files : List (Bytes × Result Bytes Unseen)) (pool table : List ℕ) → Good pool table → Sound (editionGiven pool table files)
unfolding editionGiven
sound [] pool table g = record { rooted = tt; good = g }
sound (f ∷ fs) pool table g = file-sound f.0 f.1 pool table g (λ p t. editionGiven p t fs) (sound fs)

-- what holds of a page whose set was read from its text, over a table that is well formed, holds of each page of an edition
pub on-pages : (P : Table → Page → Type 0) → ((pool table : List ℕ) → Good pool table → (p : Page) → RootedPage p → P (table_of pool table) p)
    → (pool table : List ℕ) → tableGiven pool table ≡ got tt → (files : List (Bytes × Result Bytes Unseen))
    → Every (P (table_of (editionGiven pool table files).pool (editionGiven pool table files).table)) (editionGiven pool table files).pages
on-pages P each pool table h files =
    let e = editionGiven pool table files in
    let s = sound files pool table (given-good h) in
    every-as (each e.pool e.table s.good) e.pages s.rooted
