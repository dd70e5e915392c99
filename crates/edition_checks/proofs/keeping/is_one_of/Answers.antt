use Rattle.std.proofs.Common.{sym, ◌∙◌}
use Rattle.edition_certificate_file.proofs.Kept.{kept-here, not-yet}
use Rattle.edition_checks.specs.Keeping.{isFile}
use Rattle.edition_checks.proofs.keeping.is_one_of.Goals as goal

pub returns-then-is_of : goal.returns-then-is_of
returns-then-is_of c = kept-here (isFile c.args.name.now c.args.digest.now) c.args.entries.now c.loop-entry.entry-index c.entry-item.result
    c.loop-entry-test.true c.entry-item.is (sym c.is_of.ensures ∙ c.if-is_of.true)

pub loop-entry-preserved : goal.loop-entry-preserved
loop-entry-preserved c = not-yet (isFile c.args.name.now c.args.digest.now) c.args.entries.now c.loop-entry.entry-index c.entry-item.result
    c.loop-entry-test.true c.entry-item.is (sym c.is_of.ensures ∙ c.if-is_of.false) c.loop-entry.invariant
