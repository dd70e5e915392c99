-- What is counted of sheets one after another.
use Rattle.std.specs.Prelude.{◌≡◌, refl, List, [], ◌∷◌, ◌++◌, ℕ, ◌+◌, ◌≤◌, ◌<◌, length, take, get_or, replicate}
use Rattle.std.proofs.Common.{ap, ◌∙◌, arith}
use Rattle.std.proofs.lemmas.List.{take_all}
use Rattle.rules.specs.Base.{oneIf}
use Rattle.rules.specs.Names.{Table, table_of}
use Rattle.rules.specs.Reports.{Page, acceptedIn, editionGiven, findingOf, isAccepted}
use Rattle.edition.proofs.Files.{as-many, page-at}
use Rattle.edition.specs.Files.{HoldsAll, IsSheet, ReadAll, files_of}
use Rattle.edition.specs.Report.{Counted}
use Rattle.edition.specs.declared.model.File.{File}
use Rattle.edition.specs.declared.model.Sheet.{Sheet}
use Rattle.edition_checks.specs.Counts.{editionFrom}

-- ══ The sheets of an edition ══

module _ (t : Table) where
  -- so many of the first i are accepted
  pub record CountedSoFar (xs : List Sheet) (i accepted : ℕ) : Type 0 where
    pub counted : (ps : List Page) → HoldsAll xs ps → accepted ≡ acceptedIn t (take i ps)
    pub few : accepted ≤ i

  pub none-counted : (xs : List Sheet) → CountedSoFar xs 0 0
  unfolding acceptedIn
  none-counted xs = record { counted = λ ps h. refl; few = omega arith }

  accepted-one-more : (ps : List Page) (p : Page) → acceptedIn t (ps ++ p ∷ []) ≡ acceptedIn t ps + oneIf (isAccepted (findingOf t p.content))
  unfolding acceptedIn
  accepted-one-more [] p = omega arith
  accepted-one-more (q ∷ ps) p = omega (arith, accepted-one-more ps p)

  module _ (xs : List Sheet) (i accepted : ℕ) (h : CountedSoFar xs i accepted) where
    pub one-counted : i < length xs → (x d : Sheet) → x ≡ get_or xs i d → (b : ℕ) → b ≤ 1
        → ((p : Page) → IsSheet x p → b ≡ oneIf (isAccepted (findingOf t p.content))) → CountedSoFar xs (i + 1) (accepted + b)
    one-counted l x d e b few f = record {
      counted = λ ps k. let a = page-at xs ps k i l x d e
          in rw (a.one_more, accepted-one-more (take i ps) a.page) (omega (arith, h.counted ps k, f a.page a.is));
      few = omega (arith, few, h.few);
    }

    pub all-counted : length xs ≤ i → (ps : List Page) → HoldsAll xs ps → accepted ≡ acceptedIn t ps
    all-counted l ps k = h.counted ps k ∙ ap (acceptedIn t) (take_all i ps (omega (arith, l, as-many xs ps k)))

-- files that were read are counted as the edition that they are
pub edition-counted : (files : List File) (xs : List Sheet) (p t p' t' : List ℕ) → p ≡ replicate 8192 0 → t ≡ replicate 257 0 → ReadAll p t files xs p' t'
    → {sheets accepted : ℕ} → sheets ≡ length xs → ((ps : List Page) → HoldsAll xs ps → accepted ≡ acceptedIn (table_of p' t') ps)
    → Counted sheets accepted (editionFrom (files_of files))
edition-counted files xs p t p' t' a b r {sheets} {accepted} n k =
    let e = editionGiven p t (files_of files) in
    let same : e ≡ editionFrom (files_of files) = rw (a, b) refl in
    let counted : Counted sheets accepted e = record {
      sheet-count = n ∙ as-many xs e.pages r.holds;
      accepted-count = rw (← r.pools, ← r.tables) (k e.pages r.holds);
    } in
    rw same at counted
