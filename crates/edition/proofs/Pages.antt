-- What follows from the definitions of specs/Pages: the page of a sheet, from what was kept of it and what solving and judging it told.
use Rattle.std.specs.Prelude.{◌≡◌, refl, List, [], Bool, true, false, ℕ, length}
use Rattle.std.proofs.Common.{sym, ap, ◌∙◌, le-leb}
use Rattle.rules.specs.Base.{got}
use Rattle.rules.specs.Names.{Bytes, Table, lentTable}
use Rattle.rules.specs.Reports.{findingOf, Page, constraintsIn, reportText, pageText, shownWhere, pageShown, isAccepted}
use Rattle.rules.specs.TextWriting.{namesIn}
use Rattle.rules.specs.declared.Shown.{Shown}
use Rattle.laws.specs.NameTable.{Good}
use Rattle.edition.specs.declared.model.Content.{Content}
use Rattle.edition.specs.declared.model.Content.TheVariants as content
use Rattle.edition.specs.Pages.{Holds, IsPage, constraintsOf, namesOf, Tells, shownIf}

pub lent-given : {pool table : List ℕ} → Good pool table → lentTable pool table ≡ got tt
unfolding lentTable
lent-given {pool} {table} g = rw (le-leb 8192 (length pool) g.bytes, le-leb 257 (length table) g.words) refl

pub tells : (name text : Bytes) (c : Content) (ws : List ℕ) (p : Page) → IsPage name text c ws p → Tells name text (constraintsOf c) (namesOf c) p
tells name text c ws p h = record { named = h.named; typed = h.typed; many = many-is c h.holds; fresh = fresh-is c h.holds }
  where
    many-is : (c : Content) → Holds c ws p → constraintsOf c ≡ constraintsIn p.content
    many-is (content.Set r) k = rw k.is-set k.kept.many
    many-is (content.Refused e) k = rw k.0 refl
    many-is (content.Unseen u) k = rw k.0 refl

    fresh-is : (c : Content) → Holds c ws p → namesOf c ≡ p.new
    fresh-is (content.Set r) k = k.fresh
    fresh-is (content.Refused e) k = k.1
    fresh-is (content.Unseen u) k = k.1

module _ (t : Table) {name text : Bytes} {constraints new : ℕ} (p : Page) (h : Tells name text constraints new p) where
  pub page-is : reportText (namesIn t) name text constraints new (findingOf t p.content) ≡ pageText t p
  unfolding pageText
  page-is = rw (h.named, h.typed, h.many, h.fresh) refl

module _ (shown : Shown) (t : Table) (p : Page) {accepted shows : Bool} (e : accepted ≡ isAccepted (findingOf t p.content))
    (h : (text : Bytes) → shownWhere shown accepted text ≡ shownIf shows text) where
  pub hidden : shows ≡ false → pageShown shown t p ≡ []
  unfolding pageShown
  hidden n = ap (λ (b : Bool). shownWhere shown b (pageText t p)) (sym e) ∙ h (pageText t p) ∙ ap (λ (b : Bool). shownIf b (pageText t p)) n

  pub visible : shows ≡ true → pageShown shown t p ≡ pageText t p
  unfolding pageShown
  visible n = ap (λ (b : Bool). shownWhere shown b (pageText t p)) (sym e) ∙ h (pageText t p) ∙ ap (λ (b : Bool). shownIf b (pageText t p)) n
