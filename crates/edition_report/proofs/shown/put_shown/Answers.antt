-- `put_shown` meets its contract: the bytes before the index are put.
use Rattle.std.proofs.Common.{arith}
use Rattle.text_spell.proofs.Sinks.{then, longer}
use Rattle.edition_report.proofs.Bytes.{shown_more, shown_short}
use Rattle.edition_report.proofs.shown.put_shown.Goals as goal

pub returns-in_err-put : goal.returns-in_err-put
returns-in_err-put g c =
    let t = c.args.text.now in
    let i = c.loop-b.b-index in
    longer _ c.from_residual.ensures.0 (shown_short t i (omega arith)) (then _ c.loop-b.invariant (rw c.show_byte.ensures at c.in_err-put.ensures))

pub loop-b-preserved : goal.loop-b-preserved
loop-b-preserved g c = rw (shown_more c.args.text.now c.loop-b.b-index (omega arith))
    (then _ c.loop-b.invariant (rw c.show_byte.ensures at c.in_ok-put.ensures))
