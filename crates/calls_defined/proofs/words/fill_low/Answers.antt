-- `words::fill_low` meets its contract: the loop says what is left to store.
use Rattle.std.proofs.Common.{map, sym, refl, ◌∙◌, arith}
use lib.ListN.{length-map}
use Rattle.calls_defined.specs.Fills.{low_byte}
use Rattle.calls_defined.proofs.Fills.{fill_step, fill_end}
use lib.ListN.{get_or-map}
use Rattle.calls_defined.proofs.words.fill_low.Goals as goal

pub loop-i-init : goal.loop-i-init
loop-i-init c = refl

pub loop-i-preserved : goal.loop-i-preserved
loop-i-preserved c =
    let l = c.loop-i in
    fill_step (map low_byte c.args.a.now) l.buffer c.put.new.dst l.i _ (rw (length-map c.args.a.now low_byte) (omega arith))
    (c.low.ensures ∙ sym (get_or-map low_byte c.args.a.now l.i 0)) c.put.ensures l.invariant

pub returns : goal.returns
returns c =
    let l = c.loop-i in
    fill_end (map low_byte c.args.a.now) l.buffer l.i (rw (length-map c.args.a.now low_byte) (omega arith)) l.invariant
