-- The file is read over a table without names, and its sheet is told over the names that this leaves.
use Rattle.rules.specs.Reports.{editionGiven}
use Rattle.edition.specs.Files.{files_of}
use Rattle.edition.specs.Report.{Named}
use Rattle.std.specs.Prelude.{[], ◌∷◌}
use Rattle.std.proofs.Common.{◌∙◌}
use Rattle.edition.specs.Why.{pageTold}
use Rattle.edition_checks.proofs.Edition.{edition_alone, all_put}
use Rattle.edition_checks.proofs.alone.tell_alone.Goals as goal

pub returns : goal.returns
returns g c =
    let tables = c.in_ok-tables in
    let e = editionGiven tables.tables.pool.items tables.tables.table.items (files_of (c.file.result ∷ [])) in
    let same = edition_alone _ _ c.file.result c.args.given.now tables.ensures.pool tables.ensures.table c.file.ensures.name c.file.ensures.text in
    let read = c.in_ok-sheets.ensures in
    let names = c.in_ok-names.ensures in
    let put = all_put (pageTold c.args.how.why c.args.how.shown) e _ _ _ _ _ c.in_ok-accepted.accepted c.in_ok-accepted.ensures
    (names.0 ∙ read.pools) (names.1 ∙ read.tables) (c.tell_each.ensures.told e.pages (rw c.deref.ensures.value read.holds)) in
    let counted = c.tell_each.ensures.counted e.pages (rw c.deref.ensures.value read.holds) in
    let counted = rw c.in_ok-accepted.ensures at counted in
    let named : Named c.read.new.self.pool.items c.read.new.self.table.items e = record { pools = read.pools; tables = read.tables } in
    record {
      told = rw same at put;
      counted = rw (names.0, names.1, same) at counted;
      named = rw same at named;
    }
