-- `words::fill_words` meets its contract: the loop says what is left to store.
use Rattle.std.proofs.Common.{refl, arith}
use Rattle.calls_defined.proofs.Fills.{fill_step, fill_end}
use Rattle.calls_defined.proofs.words.fill_words.Goals as goal

pub loop-i-init : goal.loop-i-init
loop-i-init c = refl

pub loop-i-preserved : goal.loop-i-preserved
loop-i-preserved c =
    let l = c.loop-i in
    fill_step c.args.a.now l.buffer c.put.new.dst l.i _ (omega arith) refl c.put.ensures l.invariant

pub returns : goal.returns
returns c =
    let l = c.loop-i in
    fill_end c.args.a.now l.buffer l.i (omega arith) l.invariant
