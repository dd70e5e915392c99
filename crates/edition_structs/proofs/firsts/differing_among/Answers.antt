use Rattle.std.proofs.Common.{map, take}
use Rattle.edition_structs.specs.Told.{told}
use Rattle.edition_structs.proofs.Keys.{firsts_next, told_next, told_done}
use Rattle.edition_structs.proofs.firsts.differing_among.Goals as goal

pub loop-k-preserved : goal.loop-k-preserved
loop-k-preserved c =
    let k = c.loop-k.k in
    let ws = c.args.written.now in
    let step = c.in_ok-first.ensures (take k (map told ws)) c.loop-k.invariant.firsts in
    record {
      firsts = firsts_next ws k c.loop-k-test.true _ c.first_alike.new.firsts step.1;
      told = told_next ws k c.loop-k-test.true _ _ _ _ _ c.loop-k.invariant.told step.0 c.in_ok-tell.ensures;
    }

pub returns : goal.returns
returns c = told_done c.args.written.now c.loop-k.k c.loop-k-test.false _ _ c.loop-k.invariant.told
