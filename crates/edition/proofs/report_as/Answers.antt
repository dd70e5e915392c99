-- `report_as` meets its contract: by whether the files are read.
use Rattle.rules.specs.Reports.{editionGiven}
use Rattle.edition.proofs.Truth.{edition-true}
use Rattle.edition.specs.Files.{files_of}
use Rattle.edition.proofs.OnReport.{sunk-told, sunk-leaves, sunk-counted}
use Rattle.edition.specs.Told.{Whole}
use Rattle.edition.proofs.report_as.Goals as goal

pub returns-in-Ok : goal.returns-in-Ok
returns-in-Ok g c =
    let e = editionGiven c.args.pool.now c.args.table.now (files_of c.args.files.now) in
    let read = c.in-Ok.ensures in
    let w : Whole _ _ _ e = record { holds = rw c.deref.ensures.value read.1.holds; pools = read.1.pools; tables = read.1.tables } in
    let t = c.tell_edition.ensures.told e w in
    record {
      told = rw c.sunk.ensures (sunk-told _ t);
      counted = rw c.sunk.ensures (sunk-counted e c.tell_edition.result (c.tell_edition.ensures.counted e w));
      truth = edition-true _ _ _;
      leaves = rw c.sunk.ensures (sunk-leaves _ t read.0 _ _ (record { pools = read.1.pools; tables = read.1.tables }));
    }

pub returns-in-Err-Names-clause-truth : goal.returns-in-Err-Names-clause-truth
returns-in-Err-Names-clause-truth g c = edition-true _ _ _

pub returns-in-Err-Memory-clause-truth : goal.returns-in-Err-Memory-clause-truth
returns-in-Err-Memory-clause-truth g c = edition-true _ _ _
