-- `inner::numbers` meets its contract.
use Rattle.std.proofs.Common.{refl}
use Rattle.compaction.specs.Told.{marks}
use Rattle.compaction.proofs.Marks.{numbered-none, numbered_more, numbered-all}
use Rattle.compaction.proofs.inner.numbers.Goals as goal

pub loop-i-init : goal.loop-i-init
loop-i-init c = numbered-none _ _ c.requires.room

pub number_of-requires : goal.number_of-requires
number_of-requires c = c.requires.places

pub loop-i-preserved : goal.loop-i-preserved
loop-i-preserved c = let l = c.loop-i in
    numbered_more (marks c.args.m.now) l.to l.i _ c.number_of.result refl c.loop-i-test.true l.invariant c.number_of.ensures

pub returns : goal.returns
returns c = let l = c.loop-i in numbered-all (marks c.args.m.now) l.to l.i c.loop-i-test.false l.invariant
