-- What follows from the definitions of specs/Told: what is told of sheets, one after another, and how many are accepted.
use Rattle.std.specs.Prelude.{◌≡◌, refl, Bool, true, false, List, [], ◌∷◌, ◌++◌, ℕ, ◌+◌, ◌≤◌, ◌<◌, length, take, drop, get_or, Result, Ok, Err, IsErr}
use Rattle.std.proofs.Common.{sym, ap, subst, ◌∙◌, arith, append-nil, append_assoc}
use Rattle.std.proofs.lemmas.List.{take_all}
use Rattle.rules.specs.Base.{collect, oneIf}
use Rattle.rules.specs.Names.{Bytes, Table, table_of}
use Rattle.rules.specs.Reports.{Page, Edition, editionShown, pageShown, acceptedIn, isAccepted, findingOf, totalText}
use Rattle.rules.specs.declared.Shown.{Shown}
use Rattle.laws.proofs.Contents.{collect-append}
use Rattle.laws.proofs.Lists.{true≢false}
use Rattle.text_spell.specs.Sinks.{Place, Puts}
use Rattle.text_spell.proofs.Sinks.{nothing, then, cut}
use Rattle.edition.specs.Files.{IsSheet, HoldsAll}
use Rattle.edition.proofs.Files.{as-many, PageAt, page-at}
use Rattle.edition.specs.Why.{pageTold, editionTold, whyText}
use Rattle.edition.specs.declared.model.Sheet.{Sheet}
use Rattle.edition.specs.Told.{Whole}

module _ (page : Page → Bytes) (t : Table) (old : Place) where
  -- the first i are told, and so many of them are accepted
  pub record ToldSoFar (xs : List Sheet) (i accepted : ℕ) (new : Place) (E : Type 0) : Type 0 where
    pub told : (ps : List Page) → HoldsAll xs ps → Puts {E = E} old (collect page (take i ps)) (Ok tt) new
    pub counted : (ps : List Page) → HoldsAll xs ps → accepted ≡ acceptedIn t (take i ps)
    pub few : accepted ≤ i

  pub none-told : (xs : List Sheet) (E : Type 0) → ToldSoFar xs 0 0 old E
  unfolding collect acceptedIn
  none-told xs E = record { told = λ ps h. nothing old; counted = λ ps h. refl; few = omega arith }

  pub accepted-one-more : (ps : List Page) (p : Page) → acceptedIn t (ps ++ (p ∷ [])) ≡ acceptedIn t ps + oneIf (isAccepted (findingOf t p.content))
  unfolding acceptedIn
  accepted-one-more [] p = omega arith
  accepted-one-more (q ∷ ps) p = omega (arith, accepted-one-more ps p)

  module _ {E : Type 0} (xs : List Sheet) (i accepted : ℕ) (now : Place) (h : ToldSoFar xs i accepted now E) (l : i < length xs) (x d : Sheet)
      (e : x ≡ get_or xs i d) where
    text-one-more : (ps : List Page) (a : PageAt ps x i)
        → collect page (take (i + 1) ps) ≡ collect page (take i ps) ++ page a.page
    unfolding collect
    text-one-more ps a = ap (collect page) a.one_more ∙ collect-append page (take i ps) (a.page ∷ [])
        ∙ ap (collect page (take i ps) ++◌) (append-nil (page a.page))

    pub one-told : {new : Place} (b : ℕ) → b ≤ 1 → ((p : Page) → IsSheet x p → Puts {E = E} now (page p) (Ok tt) new)
        → ((p : Page) → IsSheet x p → b ≡ oneIf (isAccepted (findingOf t p.content))) → ToldSoFar xs (i + 1) (accepted + b) new E
    one-told {new} b few f g = record {
      told = λ ps k. let a = page-at xs ps k i l x d e in rw (text-one-more ps a) (then _ (h.told ps k) (f a.page a.is));
      counted = λ ps k. let a = page-at xs ps k i l x d e
          in rw (a.one_more, accepted-one-more (take i ps) a.page) (omega (arith, h.counted ps k, g a.page a.is));
      few = omega (arith, few, h.few);
    }

    pub one-cut : {new : Place} {v : E} (r : Result (Unit {0}) E) → IsErr r → ((p : Page) → IsSheet x p → Puts {E = E} now (page p) (Err v) new)
        → (ps : List Page) → HoldsAll xs ps → Puts old (collect page ps) r new
    one-cut {new} {v} r q f ps k =
        let a = page-at xs ps k i l x d e in
        let z : collect page ps ≡ collect page (take i ps)
        ++ (page a.page ++ collect page (drop (i + 1) ps)) =
        ap (collect page) a.rest ∙ collect-append page (take (i + 1) ps) (drop (i + 1) ps)
        ∙ ap (λ (b : Bytes). b ++ collect page (drop (i + 1) ps)) (text-one-more ps a)
        ∙ append_assoc (collect page (take i ps)) (page a.page) (collect page (drop (i + 1) ps)) in
        rw z (then r (h.told ps k) (cut (collect page (drop (i + 1) ps)) r q (f a.page a.is)))

  module _ {E : Type 0} (xs : List Sheet) (i accepted : ℕ) (now : Place) (h : ToldSoFar xs i accepted now E) (l : length xs ≤ i) where
    all-of : (ps : List Page) → HoldsAll xs ps → take i ps ≡ ps
    all-of ps k = take_all i ps (omega (arith, l, as-many xs ps k))

    pub all-told : (ps : List Page) → HoldsAll xs ps → Puts {E = E} old (collect page ps) (Ok tt) now
    all-told ps k = subst (λ (qs : List Page). Puts {E = E} old (collect page qs) (Ok tt) now) (all-of ps k) (h.told ps k)

    pub all-counted : (ps : List Page) → HoldsAll xs ps → accepted ≡ acceptedIn t ps
    all-counted ps k = h.counted ps k ∙ ap (acceptedIn t) (all-of ps k)

-- ══ A page and its why ══

module _ (shown : Shown) (t : Table) (p : Page) {E : Type 0} {old mid : Place} where
  pub asked-cut : (why : Bool) {v : E} → Puts {E = E} old (pageShown shown t p) (Err v) mid → Puts {E = E} old (pageTold why shown t p) (Err v) mid
  asked-cut false a = a
  asked-cut true {v} a = cut _ (Err v) refl a

  pub asked-plain : (why : Bool) → why ≡ false → {r : Result (Unit {0}) E} → Puts old (pageShown shown t p) r mid → Puts old (pageTold why shown t p) r mid
  asked-plain false e a = a
  asked-plain true e a = absurd (true≢false e)

  pub asked-why : (why : Bool) → why ≡ true → Puts {E = E} old (pageShown shown t p) (Ok tt) mid → (r : Result (Unit {0}) E) {new : Place}
      → Puts mid (whyText t p) r new → Puts old (pageTold why shown t p) r new
  asked-why false e a r b = absurd (true≢false (sym e))
  asked-why true e a r b = then r a b

-- ══ The whole report ══

pub told-is : (why : Bool) (shown : Shown) (e : Edition) → editionTold why shown e
    ≡ collect (pageTold why shown (table_of e.pool e.table)) e.pages
    ++ totalText (length e.pages) (acceptedIn (table_of e.pool e.table) e.pages) (get_or e.table 0 0)
unfolding editionTold table_of
told-is why shown e = refl

-- without any why
pub plain-is : (shown : Shown) (e : Edition) → editionTold false shown e ≡ editionShown shown e
unfolding editionTold editionShown table_of
plain-is shown e = refl

-- pages and the last line
module _ (why : Bool) (shown : Shown) (pool table : List ℕ) (xs : List Sheet) (e : Edition) (w : Whole pool table xs e) {E : Type 0} {old mid : Place} where
  pub whole-told : Puts {E = E} old (collect (pageTold why shown (table_of pool table)) e.pages) (Ok tt) mid → {n : ℕ}
      → n ≡ acceptedIn (table_of pool table) e.pages
      → (r : Result (Unit {0}) E) {new : Place} → Puts mid (totalText (length xs) n (get_or table 0 0)) r new → Puts old (editionTold why shown e) r new
  whole-told a {n} k r b =
      let c = rw (as-many xs e.pages w.holds, k) at b in
      rw (told-is why shown e, ← w.pools, ← w.tables) (then r a c)

  pub whole-cut : {v : E} → Puts {E = E} old (collect (pageTold why shown (table_of pool table)) e.pages) (Err v) mid → (r : Result (Unit {0}) E) → IsErr r
      → Puts old (editionTold why shown e) r mid
  whole-cut a r i = rw (told-is why shown e, ← w.pools, ← w.tables) (cut _ r i a)
