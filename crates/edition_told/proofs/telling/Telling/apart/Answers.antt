-- File after file is counted as an edition by itself.
use Rattle.std.proofs.Common.{arith}
use Rattle.edition_checks.proofs.Counting.{given-more}
use Rattle.edition_told.proofs.telling.Telling.apart.Goals as goal

pub loop-file-preserved : goal.loop-file-preserved
loop-file-preserved c =
    let counts = c.and-totals.ensures in
    given-more c.args.given.now c.loop-file.file-index c.file-item.result _ c.file-item.is c.loop-file-test.true (omega arith) c.loop-file.invariant
    c.in_ok-one.ensures.accepted-count counts.sheets counts.accepted
