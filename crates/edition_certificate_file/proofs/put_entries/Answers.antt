use Rattle.edition_certificate_file.specs.Files.{entryText}
use Rattle.edition_certificate_file.proofs.Written.{none, one-more}
use Rattle.edition_certificate_file.proofs.put_entries.Goals as goal

pub loop-entry-init : goal.loop-entry-init
loop-entry-init c = none entryText c.args.entries.now c.args.out.now.items

pub loop-entry-preserved : goal.loop-entry-preserved
loop-entry-preserved c = one-more entryText c.args.entries.now c.args.out.now.items c.loop-entry.entry-index c.entry-item.result c.loop-entry-test.true
    c.entry-item.is c.loop-entry.invariant c.in_ok-put.ensures
