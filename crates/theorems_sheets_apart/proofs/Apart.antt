-- What becomes of a sheet, read with names, is the same in all editions.
use Rattle.std.specs.Prelude.{◌≡◌, false, List, [], ◌∷◌, ◌++◌, map, ℕ, zero, suc, length, get_or, Result, Ok, Err}
use Rattle.std.proofs.Math.Path.{refl, ap, ap₂, subst}
use Rattle.std.proofs.Common.{sym, ◌∙◌}
use Rattle.std.proofs.lemmas.List.{length-map}
use Rattle.std.proofs.Math.Option.{none, some}
use Rattle.rules.specs.Base.{got}
use Rattle.rules.specs.Names.{Bytes, Table, table_of, tableGiven}
use Rattle.rules.specs.TextReading.{Sheet, sheet, refusedIn, sheetRead}
use Rattle.rules.specs.Grammar.{ascii}
use Rattle.rules.specs.Reports.{Page, page_of, Edition, editionGiven, findingOf, constraintsIn, shown, reportText, pageText}
use Rattle.rules.specs.Offices.{mapOption, nameNo, mapCon}
use Rattle.rules.specs.Apart.{File, fileAt, Found, found, foundAt, metThree, pageAt, PagesAlike}
use Rattle.rules.specs.declared.Unseen.{Unseen}
use Rattle.laws.specs.NameTable.{Good}
use Rattle.laws.proofs.NameTable.{given-good}
use Rattle.theorems_offices.proofs.Readings.{now, SheetsOut, three-at, three-at', refused-at, both-read, sheets-alike}
use Rattle.theorems_sheets_apart.proofs.Findings.{held-alike}
use Rattle.theorems_sheets_apart.proofs.Pages.{foundText, foundPlace, foundAccepted, text-found, place-found, accepted-found}
use Rattle.theorems_sheets_apart.proofs.Editions.{pageOf, Stands, stands}

-- ══ Pages by their number ══

-- over a table, what became of a page
abbrev foundOn : Table → Page → Found
foundOn t p = found t (findingOf t p.content)

-- of the page with a number
page-found : (t : Table) (ps : List Page) (k : ℕ) → get_or (map (λ p. some (foundOn t p)) ps) k none ≡ mapOption (foundOn t) (get_or (map some ps) k none)
page-found t [] k = refl
page-found t (p ∷ ps) zero = refl
page-found t (p ∷ ps) (suc k) = page-found t ps k

found-page : (e : Edition) (k : ℕ) (p : Page) → pageAt e k ≡ some p → foundAt e k ≡ some (foundOn (table_of e.pool e.table) p)
unfolding foundAt
found-page e k p i = page-found (table_of e.pool e.table) e.pages k ∙ ap (mapOption (foundOn (table_of e.pool e.table))) i

module _ (e e' : Edition) (k k' : ℕ) (name : Bytes) where
  abbrev t : Table
  t = table_of e.pool e.table

  abbrev t' : Table
  t' = table_of e'.pool e'.table

  -- ══ Two pages of one file ══

  -- two pages of one file
  same-page : (r : Result Bytes Unseen) (w : Stands e k (name, r)) (w' : Stands e' k' (name, r))
      → metThree (some (foundOn t (pageOf w.pool w.table name r))) ≡ false → metThree (some (foundOn t' (pageOf w'.pool w'.table name r))) ≡ false
      → foundOn t (pageOf w.pool w.table name r) ≡ foundOn t' (pageOf w'.pool w'.table name r)
  unfolding findingOf found page_of
  same-page (Err u) w w' h h' = refl
  same-page (Ok text) w w' h h' = go (sheetRead w.pool w.table text) refl (sheetRead w'.pool w'.table text) refl (sheets-alike w.good w'.good text) h h'
    where
      go : (x : Sheet) → sheetRead w.pool w.table text ≡ x → (x' : Sheet) → sheetRead w'.pool w'.table text ≡ x'
          → SheetsOut (table_of w.pool w.table) (table_of w'.pool w'.table) x x'
          → metThree (some (foundOn t (page_of name text x))) ≡ false → metThree (some (foundOn t' (page_of name text x'))) ≡ false
          → foundOn t (page_of name text x) ≡ foundOn t' (page_of name text x')
      go x i x' i' (three-at l c y) h h' = absurd (cc)
      go x i x' i' (three-at' y l c) h h' = absurd (cc)
      go x i x' i' (refused-at n l c) h h' = refl
      go x i x' i' (both-read cs cs' s s' b q) h h' = held-alike w.last w'.last cs cs'
          (q.at t t' (record { here = w.leaves cs s i; there = w'.leaves cs' s' i' }))

  -- as many constraints, and the same name and text
  same-many : (r : Result Bytes Unseen) (w : Stands e k (name, r)) (w' : Stands e' k' (name, r))
      → metThree (some (foundOn t (pageOf w.pool w.table name r))) ≡ false → metThree (some (foundOn t' (pageOf w'.pool w'.table name r))) ≡ false
      → constraintsIn (pageOf w.pool w.table name r).content ≡ constraintsIn (pageOf w'.pool w'.table name r).content
  unfolding findingOf found page_of
  same-many (Err u) w w' h h' = refl
  same-many (Ok text) w w' h h' = go (sheets-alike w.good w'.good text) h h'
    where
      go : {x x' : Sheet} → SheetsOut (table_of w.pool w.table) (table_of w'.pool w'.table) x x'
          → metThree (some (foundOn t (page_of name text x))) ≡ false → metThree (some (foundOn t' (page_of name text x'))) ≡ false
          → constraintsIn (page_of name text x).content ≡ constraintsIn (page_of name text x').content
      go (three-at l c y) h h' = absurd (cc)
      go (three-at' y l c) h h' = absurd (cc)
      go (refused-at n l c) h h' = refl
      go (both-read cs cs' s s' b q) h h' =
          let m = now q in
          sym (length-map cs (mapCon (nameNo (table_of s.pool s.table)))) ∙ ap length m ∙ length-map cs' (mapCon (nameNo (table_of s'.pool s'.table)))

  same-name : (r : Result Bytes Unseen) (w : Stands e k (name, r)) (w' : Stands e' k' (name, r))
      → ((pageOf w.pool w.table name r).name ≡ (pageOf w'.pool w'.table name r).name) ×
      ((pageOf w.pool w.table name r).text ≡ (pageOf w'.pool w'.table name r).text)
  unfolding page_of
  same-name (Err u) w w' = (refl, refl)
  same-name (Ok text) w w' = go (sheetRead w.pool w.table text) (sheetRead w'.pool w'.table text)
    where
      go : (x x' : Sheet) → ((page_of name text x).name ≡ (page_of name text x').name) × ((page_of name text x).text ≡ (page_of name text x').text)
      go (sheet cs s) (sheet cs' s') = (refl, refl)
      go (sheet cs s) (refusedIn n' l' c') = (refl, refl)
      go (refusedIn n l c) (sheet cs' s') = (refl, refl)
      go (refusedIn n l c) (refusedIn n' l' c') = (refl, refl)

  -- so what is told of them is the same
  same-told : (g : Good e.pool e.table) (g' : Good e'.pool e'.table) (p p' : Page) → foundOn t p ≡ foundOn t' p'
      → constraintsIn p.content ≡ constraintsIn p'.content
      → (p.name ≡ p'.name) × (p.text ≡ p'.text) → PagesAlike t t' p p'
  unfolding pageText reportText
  same-told g g' p p' i m n = record {
    text = put-together (ap (map shown) n.0)
        (place-found t p.text (findingOf t p.content) ∙ ap₂ foundPlace n.1 i ∙ sym (place-found t' p'.text (findingOf t' p'.content)))
        (text-found g p.text (constraintsIn p.content) 0 (findingOf t p.content) ∙ told-of n.1 m i
        ∙ sym (text-found g' p'.text (constraintsIn p'.content) 0 (findingOf t' p'.content)));
    accepted = accepted-found t (findingOf t p.content) ∙ ap foundAccepted i ∙ sym (accepted-found t' (findingOf t' p'.content));
  }
    where
      put-together : {a a' b b' c c' : Bytes} → a ≡ a' → b ≡ b' → c ≡ c' → a ++ (b ++ (ascii ": " ++ c)) ≡ a' ++ (b' ++ (ascii ": " ++ c'))
      put-together e f h = rw (e, f, h)

      told-of : {a a' : Bytes} {b b' : ℕ} {c c' : Found} → a ≡ a' → b ≡ b' → c ≡ c' → foundText a b 0 c ≡ foundText a' b' 0 c'
      told-of e f h = rw (e, f, h)

-- ══ In all editions ══

pub apart : (pool table pool' table' : List ℕ) → tableGiven pool table ≡ got tt → tableGiven pool' table' ≡ got tt
    → (files files' : List File) (k k' : ℕ) (f : File) → fileAt files k ≡ some f → fileAt files' k' ≡ some f
    → metThree (foundAt (editionGiven pool table files) k) ≡ false → metThree (foundAt (editionGiven pool' table' files') k') ≡ false
    → foundAt (editionGiven pool table files) k ≡ foundAt (editionGiven pool' table' files') k'
apart pool table pool' table' g g' files files' k k' f i i' h h' =
    let e = editionGiven pool table files in
    let e' = editionGiven pool' table' files' in
    let w = stands files pool table (given-good g) k f i in
    let w' = stands files' pool' table' (given-good g') k' f i' in
    let p = found-page e k (pageOf w.pool w.table f.0 f.1) w.page in
    let p' = found-page e' k' (pageOf w'.pool w'.table f.0 f.1) w'.page in
    p ∙ ap some (same-page e e' k k' f.0 f.1 w w' (ap metThree (sym p) ∙ h) (ap metThree (sym p') ∙ h')) ∙ sym p'

pub alone : (pool table pool' table' : List ℕ) → tableGiven pool table ≡ got tt → tableGiven pool' table' ≡ got tt
    → (files : List File) (k : ℕ) (f : File) → fileAt files k ≡ some f
    → metThree (foundAt (editionGiven pool table files) k) ≡ false → metThree (foundAt (editionGiven pool' table' (f ∷ [])) 0) ≡ false
    → foundAt (editionGiven pool table files) k ≡ foundAt (editionGiven pool' table' (f ∷ [])) 0
alone pool table pool' table' g g' files k f i = apart pool table pool' table' g g' files (f ∷ []) k 0 f i refl

one-page : {p q : Page} → some p ≡ some q → p ≡ q
one-page e = cc

pub pages : (pool table pool' table' : List ℕ) → tableGiven pool table ≡ got tt → tableGiven pool' table' ≡ got tt
    → (files files' : List File) (k k' : ℕ) (f : File) (e e' : Edition) → e ≡ editionGiven pool table files → e' ≡ editionGiven pool' table' files'
    → fileAt files k ≡ some f → fileAt files' k' ≡ some f → metThree (foundAt e k) ≡ false → metThree (foundAt e' k') ≡ false
    → (p p' : Page) → pageAt e k ≡ some p → pageAt e' k' ≡ some p' → PagesAlike (table_of e.pool e.table) (table_of e'.pool e'.table) p p'
pages pool table pool' table' g g' files files' k k' f e e' d d' i i' h h' p p' j j' =
    let w = subst (λ (x : Edition). Stands x k f) (sym d) (stands files pool table (given-good g) k f i) in
    let w' = subst (λ (x : Edition). Stands x k' f) (sym d') (stands files' pool' table' (given-good g') k' f i') in
    let q = pageOf w.pool w.table f.0 f.1 in
    let q' = pageOf w'.pool w'.table f.0 f.1 in
    let m = ap metThree (sym (found-page e k q w.page)) ∙ h in
    let m' = ap metThree (sym (found-page e' k' q' w'.page)) ∙ h' in
    let z : PagesAlike (table_of e.pool e.table) (table_of e'.pool e'.table) q q' =
    same-told e e' k k' f.0 w.last w'.last q q' (same-page e e' k k' f.0 f.1 w w' m m') (same-many e e' k k' f.0 f.1 w w' m m')
    (same-name e e' k k' f.0 f.1 w w') in
    subst (λ (x : Page). PagesAlike (table_of e.pool e.table) (table_of e'.pool e'.table) x p') (one-page (sym w.page ∙ j))
    (subst (λ (x : Page). PagesAlike (table_of e.pool e.table) (table_of e'.pool e'.table) q x) (one-page (sym w'.page ∙ j')) z)
