-- `report` meets its contract: without any why the text is the same.
use Rattle.rules.specs.Reports.{editionGiven}
use Rattle.edition.specs.Files.{files_of}
use Rattle.edition.proofs.Told.{plain-is}
use Rattle.edition.proofs.report.Goals as goal

pub returns-clause-told : goal.returns-clause-told
returns-clause-told g c =
    let told = c.report_as.ensures.told in
    rw (plain-is c.args.shown (editionGiven c.args.pool.now c.args.table.now (files_of c.args.files.now))) at told
