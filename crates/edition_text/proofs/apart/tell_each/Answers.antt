use Rattle.std.proofs.Common.{arith}
use Rattle.edition_checks.proofs.Counting.{alone-counts, given-more}
use Rattle.edition_text.proofs.apart.tell_each.Goals as goal

pub loop-file-preserved : goal.loop-file-preserved
loop-file-preserved g c =
    let file = c.file-item.result in
    given-more c.args.given.now c.loop-file.file-index file _ c.file-item.is c.loop-file-test.true (omega arith) c.loop-file.invariant
    (alone-counts file c.in_ok-told.ensures.named c.in_ok-told.ensures.counted) c.and-totals.ensures.sheets c.and-totals.ensures.accepted
