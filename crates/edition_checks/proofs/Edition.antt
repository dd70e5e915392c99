-- What is put of an edition's pages over the names that reading it leaves.
use Rattle.std.specs.Prelude.{◌≡◌, List, ◌∷◌, [], ◌++◌, ℕ, replicate, Result, Ok}
use Rattle.std.proofs.Common.{ap, ap₂}
use Rattle.rules.specs.Base.{collect}
use Rattle.rules.specs.Names.{Bytes, Table, table_of}
use Rattle.rules.specs.Reports.{Edition, Page, editionGiven}
use Rattle.rules.specs.declared.Unseen.{Unseen}
use Rattle.text_spell.specs.Sinks.{Place, Puts}
use Rattle.edition.specs.Files.{files_of, text_of as lent_text}
use Rattle.edition.specs.Pages.{done}
use Rattle.edition.specs.declared.model.File.{File}
use Rattle.edition_checks.specs.declared.files.Given.{Given}
use Rattle.edition_checks.specs.Given.{editionOf, text_of}

-- the edition of a file that is lent, over a table without names
pub edition_alone : (p t : List ℕ) (f : File) (g : Given) → p ≡ replicate 8192 0 → t ≡ replicate 257 0 → f.name.now ≡ g.name.now → lent_text f ≡ text_of g
    → editionGiven p t (files_of (f ∷ [])) ≡ editionOf (g ∷ [])
edition_alone p t f g a b name text =
    let pair : (f.name.now, lent_text f) ≡ (g.name.now, text_of g) = ap₂ (λ (n : Bytes) (s : Result Bytes Unseen). (n, s)) name text in
    rw (a, b) (ap (λ (x : Bytes × Result Bytes Unseen). editionGiven (replicate 8192 0) (replicate 257 0) (x ∷ [])) pair)

-- all pages were put, over the names of the edition
pub all_put : {E : Type 0} (page : Table → Page → Bytes) (e : Edition) (p t : List ℕ) (old new : Place) (r : Result ℕ E) (a : ℕ) → r ≡ Ok a
    → p ≡ e.pool → t ≡ e.table
    → Puts old (collect (page (table_of p t)) e.pages) (done r) new
    → new.held ≡ old.held ++ collect (page (table_of e.pool e.table)) e.pages
all_put page e p t old new r a ok x y put = rw (← x, ← y) (let there = rw ok at put in there.puts)
