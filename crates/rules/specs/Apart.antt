-- Sheets of an edition, checked apart: what became of a sheet, read with names, in whichever edition it stands.
use Rattle.std.specs.Prelude.{◌≡◌, Bool, false, List, map, ℕ, eqb, get_or, Result}
use Rattle.std.proofs.Math.Option.{Option, none, some}
use Rattle.rules.specs.Trees.{Con, Binding}
use Rattle.rules.specs.Names.{Bytes, Table, table_of}
use Rattle.rules.specs.Offices.{Name, nameNo, mapCon, mapBinding}
use Rattle.rules.specs.Reports.{Finding, unread, agrees, remains, isAccepted, Page, Edition, findingOf, pageText}
use Rattle.rules.specs.declared.Unseen.{Unseen}

-- a file's name, and its bytes or why it can't be had
abbrev pub File : Type 0
File = Bytes × Result Bytes Unseen

-- a finding with names in place of numbers: accepted, with bindings, bounds and rounds; what remains, after so many rounds; all others hold no
-- name's number
pub data Found : Type 0 where
  accepts : List (Binding Name) → List Name → ℕ → Found
  leaves : List (Con Name) → ℕ → Found
  says : Finding → Found

unfoldable pub found : Table → Finding → Found
found t (agrees bs ns k) = accepts (map (mapBinding (nameNo t)) bs) (map (nameNo t) ns) k
found t (remains cs k) = leaves (map (mapCon (nameNo t)) cs) k
found t f = says f

-- in a list of files, the one with this number, counted from 0
abbrev pub fileAt : List File → ℕ → Option File
fileAt fs k = get_or (map some fs) k none

-- what became of it, over the table with the names of the whole edition
unfoldable pub foundAt : Edition → ℕ → Option Found
foundAt e k = get_or (map (λ p. some (found t (findingOf t p.content))) e.pages) k none
  where
    t : Table
    t = table_of e.pool e.table

-- its reading met 3: there was no room for another name
abbrev pub metThree : Option Found → Bool
metThree none = false
metThree (some (accepts bs ns k)) = false
metThree (some (leaves cs k)) = false
metThree (some (says (unread n l c))) = eqb n 3
metThree (some (says f)) = false

-- ══ Its page ══

abbrev pub pageAt : Edition → ℕ → Option Page
pageAt e k = get_or (map some e.pages) k none

-- without how many of its names are new
abbrev pub uncounted : Page → Page
uncounted p = record { name = p.name; text = p.text; new = 0; content = p.content }

-- two pages, each told over a table: byte for byte the same except for that count, and both accepted or neither
pub record PagesAlike (t t' : Table) (p p' : Page) : Type 0 where
  pub text : pageText t (uncounted p) ≡ pageText t' (uncounted p')
  pub accepted : isAccepted (findingOf t p.content) ≡ isAccepted (findingOf t' p'.content)
