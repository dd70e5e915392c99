-- Why a page that says 'accepted' is true: the judge said yes to what it prints.
use Rattle.std.specs.Prelude.{◌≡◌, refl, List, [], ◌∷◌}
use Rattle.rules.specs.Base.{collect}
use Rattle.rules.specs.Calls.{solvedSet}
use Rattle.rules.specs.Names.{Table, table_of, numbersOf}
use Rattle.rules.specs.Reports.{Content, holding, refusing, lacking, Page, editionGiven, findingOf, pageText}
use Rattle.rules.specs.Writing.{words, writeCon}
use Rattle.laws.specs.Lists.{Every}
use Rattle.edition_report.specs.Theorems.{AcceptedOn}
use Rattle.edition_report.proofs.Promise.{found-is, page-only}
use Rattle.theorems_soundness.proofs.Soundness.{yes-solves}
use Rattle.edition.specs.Theorems.{TrueOn, TrueWhereAccepted, AcceptedSheetsAreTrue}

content-true : (t : Table) (p : Page) (c : Content) → p.content ≡ c → AcceptedOn t c → TrueOn t p c
unfolding pageText findingOf
content-true t p (holding cs) e x = record {
  binds = x.binds;
  bounds = x.bounds;
  rounds = x.rounds;
  printed = rw (e, found-is (numbersOf t) cs (solvedSet t (words (collect writeCon cs))) x) refl;
  solves = yes-solves (numbersOf t) cs x.binds x.bounds x.judged;
}
content-true t p (refusing n l c) e x = absurd x
content-true t p (lacking u) e x = absurd x

page-true : (t : Table) (p : Page) → TrueWhereAccepted t p
page-true t p says = content-true t p p.content refl (page-only t p says)

pages-true : (t : Table) (ps : List Page) → Every (TrueWhereAccepted t) ps
pages-true t [] = tt
pages-true t (p ∷ ps) = (page-true t p, pages-true t ps)

pub edition-true : AcceptedSheetsAreTrue
edition-true pool table files = let e = editionGiven pool table files in pages-true (table_of e.pool e.table) e.pages
