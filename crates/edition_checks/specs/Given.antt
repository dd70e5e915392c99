-- What is had of the files that were named.
use Rattle.std.specs.Prelude.{Bool, List, map, Result, Ok, Err}
use Rattle.rules.specs.Base.{collect}
use Rattle.rules.specs.Names.{Bytes, table_of}
use Rattle.rules.specs.Reports.{Edition}
use Rattle.rules.specs.declared.Shown.{Shown}
use Rattle.rules.specs.declared.Unseen.{Unseen}
use Rattle.edition.specs.Why.{pageTold}
use Rattle.edition_checks.specs.Counts.{editionFrom}
use Rattle.edition_checks.specs.declared.files.Given.{Given}

-- a file's bytes, or why they can't be had
abbrev pub text_of : Given → Result Bytes Unseen
text_of g = elim g.text [ Ok v ↦ Ok v.items | Err u ↦ Err u ]

-- files by name, each with its bytes, or why they can't be had
abbrev pub given_of : List Given → List (Bytes × Result Bytes Unseen)
given_of gs = map (λ g. (g.name.now, text_of g)) gs

-- the edition of these files, over a table without names
abbrev pub editionOf : List Given → Edition
editionOf gs = editionFrom (given_of gs)

-- its pages, as they are shown, each with its why if that is asked for
abbrev pub pagesTold : Bool → Shown → List Given → Bytes
pagesTold why shown gs = collect (pageTold why shown (table_of (editionOf gs).pool (editionOf gs).table)) (editionOf gs).pages
