-- Why every sheet passes where as many are accepted as there are.
use Rattle.std.specs.Prelude.{◌≡◌, refl, ◌≤◌, Bool, true, false, ℕ, List, [], ◌∷◌, length, replicate, Result, Ok, Err}
use Rattle.std.proofs.Common.{ap, arith}
use Rattle.rules.specs.Base.{oneIf, sum_of}
use Rattle.rules.specs.Names.{Bytes, Table, table_of}
use Rattle.rules.specs.TextReading.{Sheet, sheet, refusedIn, sheetRead}
use Rattle.rules.specs.TextWriting.{namesIn}
use Rattle.rules.specs.Reports.{Page, acceptedIn, constraintsIn, editionGiven, findingOf, isAccepted, namesAfter, page_of, pageText, readOn}
use Rattle.rules.specs.declared.Unseen.{Unseen}
use Rattle.laws.specs.Lists.{Every}
use Rattle.laws.proofs.Numbers.{one_at_most}
use Rattle.edition_report.proofs.Promise.{says-it}
use Rattle.edition.specs.Theorems.{AllTrue, TrueOn, TrueWhereAccepted}
use Rattle.edition.proofs.Truth.{edition-true}
use Rattle.edition_verify.specs.Verifying.{Had}
use Rattle.edition_checks.specs.Counts.{
  editionFrom,
  alone,
  acceptedOf,
  CountsTogether,
  CountsApart,
  AllPass,
  Passed,
  CountsThatAgreePass,
  CertifiedThatAgreePass,
}

-- ══ Counts of at most one each ══

module _ {A : Type 0} (f : A → ℕ) (one : (x : A) → f x ≤ 1) where
  pub few : (xs : List A) → sum_of f xs ≤ length xs
  few [] = omega arith
  few (x ∷ xs) = let a = one x in let b = few xs in omega (arith, a, b)

  -- where the sum reaches the length, each counts
  each-counts : (P : A → Type 0) (xs : List A) → Every (λ x. 1 ≤ f x → P x) xs → length xs ≤ sum_of f xs → Every P xs
  each-counts P [] h n = tt
  each-counts P (x ∷ xs) h n = let a = one x in let b = few xs in (h.0 (omega (arith, a, b, n)), each-counts P xs h.1 (omega (arith, a, b, n)))

yes-counted : (b : Bool) → 1 ≤ oneIf b → b ≡ true
yes-counted true h = refl
yes-counted false h = absurd (omega (arith, h))

-- ══ An edition ══

module _ (t : Table) where
  -- a page whose finding is accepted says so, and is true
  page-passes : (p : Page) → TrueWhereAccepted t p → 1 ≤ oneIf (isAccepted (findingOf t p.content)) → TrueOn t p p.content
  unfolding pageText
  page-passes p h n =
      h (says-it (namesIn t) p.text (constraintsIn p.content) p.new p.name (findingOf t p.content) (yes-counted (isAccepted (findingOf t p.content)) n))

  pages-pass : (ps : List Page) → Every (TrueWhereAccepted t) ps → Every (λ p. 1 ≤ oneIf (isAccepted (findingOf t p.content)) → TrueOn t p p.content) ps
  pages-pass [] h = tt
  pages-pass (p ∷ ps) h = (page-passes p h.0, pages-pass ps h.1)

  few-accepted : (ps : List Page) → acceptedIn t ps ≤ length ps
  unfolding acceptedIn
  few-accepted ps = few (λ (p : Page). oneIf (isAccepted (findingOf t p.content))) (λ p. one_at_most (isAccepted (findingOf t p.content))) ps

  all-pass : (ps : List Page) → Every (TrueWhereAccepted t) ps → length ps ≤ acceptedIn t ps → Every (λ p. TrueOn t p p.content) ps
  unfolding acceptedIn
  all-pass ps h n = each-counts (λ (p : Page). oneIf (isAccepted (findingOf t p.content))) (λ p. one_at_most (isAccepted (findingOf t p.content)))
      (λ p. TrueOn t p p.content) ps (pages-pass ps h) n

edition-passes : (fs : List Had) → length (editionFrom fs).pages ≤ acceptedOf (editionFrom fs) → AllPass (editionFrom fs)
edition-passes fs n = let e = editionFrom fs in all-pass (table_of e.pool e.table) e.pages (edition-true (replicate 8192 0) (replicate 257 0) fs) n

together-pass : (files : List Had) (sheets accepted : ℕ) → CountsTogether files sheets accepted → sheets ≤ accepted → Passed false files
together-pass files sheets accepted c n = edition-passes files (rw (c.sheet-count, c.accepted-count) at n)

-- ══ A sheet as an edition by itself ══

none-behind : (m : Sheet) (pool table : List ℕ) → (namesAfter m pool table (λ p t. editionGiven p t [])).pages ≡ []
unfolding editionGiven
none-behind (sheet cs s) pool table = refl
none-behind (refusedIn n l c) pool table = refl

one-read : (name : Bytes) (r : Result Bytes Unseen) (pool table : List ℕ) → length (readOn name r pool table (λ p t. editionGiven p t [])).pages ≡ 1
unfolding editionGiven
one-read name (Ok text) pool table =
    ap (λ (ps : List Page). length (page_of name text (sheetRead pool table text) ∷ ps)) (none-behind (sheetRead pool table text) pool table)
one-read name (Err u) pool table = refl

one-page : (pool table : List ℕ) (f : Had) → length (editionGiven pool table (f ∷ [])).pages ≡ 1
unfolding editionGiven
one-page pool table f = one-read f.0 f.1 pool table

pub one-accepted : (f : Had) → acceptedOf (alone f) ≤ 1
one-accepted f =
    let e = alone f in
    let many : length e.pages ≡ 1 = one-page (replicate 8192 0) (replicate 257 0) f in
    let counted : acceptedOf e ≤ length e.pages = few-accepted (table_of e.pool e.table) e.pages in
    rw many at counted

alone-passes : (f : Had) → 1 ≤ acceptedOf (alone f) → AllPass (alone f)
alone-passes f n = edition-passes (f ∷ []) (rw (one-page (replicate 8192 0) (replicate 257 0) f) n)

each-passes : (fs : List Had) → Every (λ f. 1 ≤ acceptedOf (alone f) → AllPass (alone f)) fs
each-passes [] = tt
each-passes (f ∷ fs) = (alone-passes f, each-passes fs)

apart-pass : (files : List Had) (sheets accepted : ℕ) → CountsApart files sheets accepted → sheets ≤ accepted → Passed true files
apart-pass files sheets accepted c n =
    each-counts (λ (f : Had). acceptedOf (alone f)) one-accepted (λ f. AllPass (alone f)) files (each-passes files) (rw (c.all, c.counted) at n)

-- ══ What the counts are worth ══

pub counts-pass : CountsThatAgreePass
counts-pass false files sheets accepted c n = together-pass files sheets accepted c n
counts-pass true files sheets accepted c n = apart-pass files sheets accepted c n

pub certified-pass : CertifiedThatAgreePass
certified-pass files sheets accepted c n = record { entries = c.entries; pass = c.truth n }
