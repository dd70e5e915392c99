-- What the counts of a report are counts of, and what it means that every sheet passes.
use Rattle.std.specs.Prelude.{◌≡◌, ◌≤◌, Bool, true, false, ℕ, List, [], ◌∷◌, length, replicate}
use Rattle.rules.specs.Base.{sum_of}
use Rattle.rules.specs.Names.{table_of}
use Rattle.rules.specs.Reports.{Edition, acceptedIn, editionGiven}
use Rattle.laws.specs.Lists.{Every}
use Rattle.edition.specs.Report.{Counted}
use Rattle.edition.specs.Theorems.{TrueOn}
use Rattle.edition_certificate_file.specs.declared.Entry.{Entry}
use Rattle.edition_verify.specs.Verifying.{Had, TrueBy, sheetsIn, verifiedIn}

-- the edition of files, over a table without names
abbrev pub editionFrom : List Had → Edition
editionFrom fs = editionGiven (replicate 8192 0) (replicate 257 0) fs

-- a file as an edition by itself
abbrev pub alone : Had → Edition
alone f = editionFrom (f ∷ [])

abbrev pub acceptedOf : Edition → ℕ
acceptedOf e = acceptedIn (table_of e.pool e.table) e.pages

-- ══ What is counted ══

-- of files that are read as one edition: its sheets, and those that are accepted
abbrev pub CountsTogether : List Had → ℕ → ℕ → Type 0
CountsTogether files sheets accepted = Counted sheets accepted (editionFrom files)

-- of files each of which is an edition by itself
pub record CountsApart (files : List Had) (sheets accepted : ℕ) : Type 0 where
  pub all : sheets ≡ length files
  pub counted : accepted ≡ sum_of (λ f. acceptedOf (alone f)) files

abbrev pub CountsOf : Bool → List Had → ℕ → ℕ → Type 0
CountsOf false files sheets accepted = CountsTogether files sheets accepted
CountsOf true files sheets accepted = CountsApart files sheets accepted

-- by what a certificate keeps: where as many are counted as there are, each file is true by it
pub record CountsCertified (files : List Had) (sheets accepted : ℕ) : Type 0 where
  pub entries : List Entry
  pub all : sheets ≡ sheetsIn entries files
  pub counted : accepted ≡ verifiedIn entries files
  pub truth : sheets ≤ accepted → Every (TrueBy entries) files

-- ══ Every sheet passes ══

-- each sheet of an edition is accepted, and true by what its page prints
abbrev pub AllPass : Edition → Type 0
AllPass e = Every (λ p. TrueOn (table_of e.pool e.table) p p.content) e.pages

-- so is each sheet of files, as one edition or each by itself
abbrev pub Passed : Bool → List Had → Type 0
Passed false files = AllPass (editionFrom files)
Passed true files = Every (λ f. AllPass (alone f)) files

-- each file is one that a certificate keeps, and true by it
pub record PassedCertified (files : List Had) : Type 0 where
  pub entries : List Entry
  pub pass : Every (TrueBy entries) files

-- ══ What the counts are worth ══

-- where as many sheets are accepted as there are, every sheet passes
abbrev pub CountsThatAgreePass : Type 0
CountsThatAgreePass = (separate : Bool) (files : List Had) (sheets accepted : ℕ) → CountsOf separate files sheets accepted → sheets ≤ accepted
    → Passed separate files

-- and by a certificate
abbrev pub CertifiedThatAgreePass : Type 0
CertifiedThatAgreePass = (files : List Had) (sheets accepted : ℕ) → CountsCertified files sheets accepted → sheets ≤ accepted → PassedCertified files
