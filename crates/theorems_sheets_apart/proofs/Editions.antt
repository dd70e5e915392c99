-- A file of an edition: over which table it was read, and that the edition's last table has the names that it left.
use Rattle.std.specs.Prelude.{◌≡◌, List, [], ◌∷◌, ℕ, zero, suc, Result, Ok, Err}
use Rattle.std.proofs.Math.Path.{refl, sym, subst}
use Rattle.std.proofs.Math.Option.{some}
use Rattle.rules.specs.Trees.{Con}
use Rattle.rules.specs.Names.{Bytes, Table, table_of}
use Rattle.rules.specs.TextReading.{Sofar, Sheet, sheet, refusedIn, sheetRead}
use Rattle.rules.specs.Reports.{Page, page_of, page_without, Edition, onPage, readOn, namesAfter, editionGiven}
use Rattle.rules.specs.Apart.{File, fileAt, pageAt}
use Rattle.rules.specs.declared.Unseen.{Unseen}
use Rattle.laws.proofs.Lists.{some≢none}
use Rattle.laws.specs.NameTable.{Good}
use Rattle.theorems_offices.proofs.Steps.{Grows, grows-same, grows-on}
use Rattle.theorems_offices.proofs.Deeds.{Keeps, sheet-left}

-- ══ What a sheet leaves ══

abbrev Left : List ℕ → List ℕ → List ℕ → List ℕ → Type 0
Left pool table pool' table' = Keeps (record { pool = pool; table = table }) (record { pool = pool'; table = table' })

-- what is left behind all files
all-left : (files : List File) (pool table : List ℕ) → Good pool table
    → Left pool table (editionGiven pool table files).pool (editionGiven pool table files).table
unfolding editionGiven
all-left [] pool table g = record { good = g; grown = grows-same (table_of pool table) }
all-left (f ∷ fs) pool table g = given f.1 (all-left fs)
  where
    over-sheet : (text : Bytes) (x : Sheet) → sheetRead pool table text ≡ x
        → ((p t : List ℕ) → Good p t → Left p t (editionGiven p t fs).pool (editionGiven p t fs).table)
        → Left pool table (namesAfter x pool table (λ p t. editionGiven p t fs)).pool (namesAfter x pool table (λ p t. editionGiven p t fs)).table
    over-sheet text (sheet cs s) e h =
        let l = sheet-left g text cs s e in
        let m = h s.pool s.table l.good in
        record { good = m.good; grown = grows-on l.grown m.grown }
    over-sheet text (refusedIn n l c) e h = h pool table g

    given : (r : Result Bytes Unseen) → ((p t : List ℕ) → Good p t → Left p t (editionGiven p t fs).pool (editionGiven p t fs).table)
        → Left pool table (readOn f.0 r pool table (λ p t. editionGiven p t fs)).pool (readOn f.0 r pool table (λ p t. editionGiven p t fs)).table
    given (Ok text) h = over-sheet text (sheetRead pool table text) refl h
    given (Err u) h = h pool table g

-- ══ A page, and what is left behind it ══

-- the page of a file that is read over this table
abbrev pub pageOf : List ℕ → List ℕ → Bytes → Result Bytes Unseen → Page
pageOf pool table name (Ok text) = page_of name text (sheetRead pool table text)
pageOf pool table name (Err u) = page_without name u

-- a file's sheet leaves names that a later table still has
abbrev Leaves : List ℕ → List ℕ → Result Bytes Unseen → Table → Type 0
Leaves pool table (Ok text) t = (cs : List (Con ℕ)) (s : Sofar) → sheetRead pool table text ≡ sheet cs s → Grows (table_of s.pool s.table) t
Leaves pool table (Err u) t = Unit {0}

pub record Stands (e : Edition) (k : ℕ) (f : File) : Type 0 where
  pub pool : List ℕ
  pub table : List ℕ
  pub good : Good pool table
  pub page : pageAt e k ≡ some (pageOf pool table f.0 f.1)
  pub leaves : Leaves pool table f.1 (table_of e.pool e.table)
  pub last : Good e.pool e.table

module _ (pool table : List ℕ) (g : Good pool table) (name : Bytes) (fs : List File) where
  -- the first file
  first-stands : (r : Result Bytes Unseen) → Stands (editionGiven pool table ((name, r) ∷ fs)) 0 (name, r)
  unfolding editionGiven
  first-stands (Ok text) = record {
    pool = pool;
    table = table;
    good = g;
    page = refl;
    leaves = λ cs s i. rw i (all-left fs s.pool s.table (sheet-left g text cs s i).good).grown;
    last = (all-left ((name, Ok text) ∷ fs) pool table g).good;
  }
  first-stands (Err u) = record { pool = pool; table = table; good = g; page = refl; leaves = tt; last = (all-left ((name, Err u) ∷ fs) pool table g).good }

  -- and one behind it
  behind : (p : Page) (e : Edition) (k : ℕ) (h : File) → Stands e k h → Stands (onPage p e) (suc k) h
  behind p e k h i = record { pool = i.pool; table = i.table; good = i.good; page = i.page; leaves = i.leaves; last = i.last }

  later-stands : (r : Result Bytes Unseen) (k : ℕ) (h : File) → ((p t : List ℕ) → Good p t → Stands (editionGiven p t fs) k h)
      → Stands (editionGiven pool table ((name, r) ∷ fs)) (suc k) h
  unfolding editionGiven
  later-stands (Ok text) k h i = behind (page_of name text (sheetRead pool table text)) _ k h (over-sheet (sheetRead pool table text) refl)
    where
      over-sheet : (x : Sheet) → sheetRead pool table text ≡ x → Stands (namesAfter x pool table (λ p t. editionGiven p t fs)) k h
      over-sheet (sheet cs s) e = i s.pool s.table (sheet-left g text cs s e).good
      over-sheet (refusedIn n l c) e = i pool table g
  later-stands (Err u) k h i = behind (page_without name u) (editionGiven pool table fs) k h (i pool table g)

same-file : {f h : File} → some h ≡ some f → h ≡ f
same-file e = cc

pub stands : (files : List File) (pool table : List ℕ) → Good pool table → (k : ℕ) (f : File) → fileAt files k ≡ some f
    → Stands (editionGiven pool table files) k f
stands [] pool table g k f e = absurd (some≢none (sym e))
stands (h ∷ fs) pool table g zero f e = subst (λ (x : File). Stands (editionGiven pool table (h ∷ fs)) 0 x) (same-file e) (first-stands pool table g h.0 fs h.1)
stands (h ∷ fs) pool table g (suc k) f e = later-stands pool table g h.0 fs h.1 k f (λ p t i. stands fs p t i k f e)
