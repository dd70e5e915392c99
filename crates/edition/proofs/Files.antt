-- What follows from the definitions of specs/Files: the sheets of an edition as they are read, one file after another, and their pages.
use Rattle.std.specs.Prelude.{◌≡◌, refl, List, [], ◌∷◌, ◌++◌, ℕ, ◌+◌, ◌≤◌, ◌<◌, zero, suc, length, take, drop, get_or}
use Rattle.std.proofs.Common.{subst, sym, ap, ◌∙◌, arith, add-one, append-nil, append_assoc, drop-cons, drop_of_length-le, length-append}
use Rattle.rules.specs.Reports.{Page, Edition, onPage, editionGiven}
use Rattle.laws.specs.NameTable.{Good}
use Rattle.edition.specs.declared.model.File.{File}
use Rattle.edition.specs.declared.model.Sheet.{Sheet}
use Rattle.edition.specs.Files.{files_of, IsSheet, HoldsAll, FileRead, ReadAll}

pub holds-append : (xs : List Sheet) (ps : List Page) (y : Sheet) (q : Page) → HoldsAll xs ps → IsSheet y q → HoldsAll (xs ++ (y ∷ [])) (ps ++ (q ∷ []))
holds-append [] [] y q h i = (i, tt)
holds-append [] (p ∷ ps) y q h i = absurd h
holds-append (x ∷ xs) [] y q h i = absurd h
holds-append (x ∷ xs) (p ∷ ps) y q h i = (h.0, holds-append xs ps y q h.1 i)

pub as-many : (xs : List Sheet) (ps : List Page) → HoldsAll xs ps → length xs ≡ length ps
as-many [] [] h = refl
as-many [] (p ∷ ps) h = absurd h
as-many (x ∷ xs) [] h = absurd h
as-many (x ∷ xs) (p ∷ ps) h = ap suc (as-many xs ps h.1)

-- the page of the sheet i, behind those of the sheets in front of it
pub record PageAt (ps : List Page) (x : Sheet) (i : ℕ) : Type 0 where
  pub page : Page
  pub is : IsSheet x page
  pub one_more : take (i + 1) ps ≡ take i ps ++ (page ∷ [])
  pub rest : ps ≡ take (i + 1) ps ++ drop (i + 1) ps

pub page-at : (xs : List Sheet) (ps : List Page) → HoldsAll xs ps → (i : ℕ) → i < length xs → (x d : Sheet) → x ≡ get_or xs i d → PageAt ps x i
page-at [] ps h i l x d e = absurd (omega (arith, l))
page-at (y ∷ xs) [] h i l x d e = absurd h
page-at (y ∷ xs) (p ∷ ps) h zero l x d e = record { page = p; is = rw e h.0; one_more = refl; rest = refl }
page-at (y ∷ xs) (p ∷ ps) h (suc i) l x d e =
    let a = page-at xs ps h.1 i (omega (arith, l)) x d e in
    let z : suc i + 1 ≡ suc (i + 1) = omega arith in
    record { page = a.page; is = a.is; one_more = rw z (ap (p ∷◌) a.one_more); rest = rw z (ap (p ∷◌) a.rest) }

-- ══ Files that are read one after another ══

-- pages in front of those of an edition
abbrev pub before : List Page → Edition → Edition
before ps e = record { pages = ps ++ e.pages; pool = e.pool; table = e.table }

-- i files are read, to these sheets, and to these names
pub record ReadSoFar (pool table : List ℕ) (files : List File) (i : ℕ) (xs : List Sheet) (pool' table' : List ℕ) : Type 0 where
  pub pages : List Page
  pub holds : HoldsAll xs pages
  pub is : editionGiven pool table (files_of files) ≡ before pages (editionGiven pool' table' (files_of (drop i files)))
  pub good : Good pool' table'
  pub many : length xs ≡ i

module _ (pool table : List ℕ) (files : List File) (i : ℕ) (xs : List Sheet) (p t : List ℕ) (h : ReadSoFar pool table files i xs p t) where
  one-step : (f : File) (fs : List File) (p' t' : List ℕ) (x : Sheet) (r : FileRead f p t p' t' x)
      → editionGiven p t (files_of (f ∷ fs)) ≡ onPage r.page (editionGiven p' t' (files_of fs))
  unfolding editionGiven
  one-step f fs p' t' x r = r.after (λ a b. editionGiven a b (files_of fs))

  first-file : i < length files → (f d : File) → f ≡ get_or files i d
      → editionGiven p t (files_of (drop i files)) ≡ editionGiven p t (files_of (f ∷ drop (suc i) files))
  first-file l f d e = ap (λ (fs : List File). editionGiven p t (files_of fs)) (drop-cons files i d l ∙ ap (λ (g : File). g ∷ drop (suc i) files) (sym e))

  in-front : (ps : List Page) (q : Page) (e : Edition) → before ps (onPage q e) ≡ before (ps ++ (q ∷ [])) e
  in-front ps q e = rw (append_assoc ps (q ∷ []) e.pages) refl

  pub one-read : i < length files → (f d : File) → f ≡ get_or files i d → (p' t' : List ℕ) (x : Sheet) → FileRead f p t p' t' x
      → ReadSoFar pool table files (i + 1) (xs ++ (x ∷ [])) p' t'
  one-read l f d e p' t' x r = record {
    pages = h.pages ++ (r.page ∷ []);
    holds = holds-append xs h.pages x r.page h.holds r.is;
    is = h.is ∙ ap (before h.pages) (first-file l f d e ∙ one-step f (drop (suc i) files) p' t' x r)
        ∙ in-front h.pages r.page (editionGiven p' t' (files_of (drop (suc i) files)))
        ∙ ap (λ (k : ℕ). before (h.pages ++ (r.page ∷ [])) (editionGiven p' t' (files_of (drop k files)))) (sym (add-one i));
    good = r.good;
    many = simp length-append (omega (arith, h.many));
  }

  ended : length files ≤ i → editionGiven pool table (files_of files) ≡ before h.pages (record { pages = []; pool = p; table = t })
  unfolding editionGiven
  ended l = h.is ∙ ap (λ (fs : List File). before h.pages (editionGiven p t (files_of fs))) (drop_of_length-le files {i = i} l)

  pub all-read : length files ≤ i → ReadAll pool table files xs p t
  all-read l = record {
    holds = subst (λ (ps : List Page). HoldsAll xs ps) (sym (ap (λ (e : Edition). e.pages) (ended l) ∙ append-nil h.pages)) h.holds;
    pools = sym (ap (λ (e : Edition). e.pool) (ended l));
    tables = sym (ap (λ (e : Edition). e.table) (ended l));
    good = h.good;
  }
