-- What a yes is worth: each constraint of the sheet's file is true.
use Rattle.std.specs.Prelude.{◌≡◌, List, ℕ}
use Rattle.sha2.specs.Sha256.{sha256}
use Rattle.rules.specs.Base.{collect}
use Rattle.rules.specs.Meaning.{Solves}
use Rattle.rules.specs.Names.{Bytes, table_of, numbersOf}
use Rattle.rules.specs.TextReading.{Sheet, sheet, sheetRead, Sofar}
use Rattle.rules.specs.Trees.{Con}
use Rattle.rules.specs.Writing.{words, writeCon}
use Rattle.edition_certificates.specs.Certificates.{bindingsIn, boundNames}
use Rattle.edition_certificates.specs.Theorems.{Verified}
use Rattle.edition_certified.specs.Certified.{noPool, noTable}
use Rattle.edition_certified.specs.declared.Verdict.{Verdict}
use Rattle.edition_certified.specs.declared.Verdict.TheVariants as verdict

-- the lines were read, and make the set true
pub record Lines (set : List ℕ) (m : Sheet) : Type 0 where
  pub ds : List (Con ℕ)
  pub ended : Sofar
  pub read : m ≡ sheet ds ended
  pub proves : Verified ended.pool ended.table set (words (collect writeCon ds))

abbrev pub LinesAreTrue : List ℕ → Sheet → Verdict → Type 0
LinesAreTrue set m v = v ≡ verdict.Verified → Lines set m

-- the sheet is read over a table without names, as the constraints cs; the lines are read behind it, over its names, as ds. With what these say put in, all
-- at once and in exact arithmetic, each constraint is true, with any dimension in the place of the names that they bound
pub record AllTrue (text lines : Bytes) : Type 0 where
  pub cs : List (Con ℕ)
  pub ds : List (Con ℕ)
  pub behind : Sofar
  pub ended : Sofar
  pub sheet-read : sheetRead noPool noTable text ≡ sheet cs behind
  pub lines-read : sheetRead behind.pool behind.table lines ≡ sheet ds ended
  pub solves : Solves (numbersOf (table_of ended.pool ended.table)) cs (bindingsIn ds) (boundNames ds)

abbrev pub TextIsTrue : Bytes → Bytes → Verdict → Type 0
TextIsTrue text lines v = v ≡ verdict.Verified → AllTrue text lines

-- and the file is the one that was certified
pub record Certified (digest text lines : Bytes) : Type 0 where
  pub same-file : digest ≡ sha256 text
  pub true-by : AllTrue text lines

abbrev pub VerifiedIsTrue : Bytes → Bytes → Bytes → Verdict → Type 0
VerifiedIsTrue digest text lines v = v ≡ verdict.Verified → Certified digest text lines
