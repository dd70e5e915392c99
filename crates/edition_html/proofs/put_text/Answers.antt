-- `put_text` meets its contract: the bytes before the index are put.
use Rattle.std.proofs.Common.{arith}
use Rattle.text_spell.proofs.Sinks.{then, longer}
use Rattle.edition_html.specs.Pages.{pageByte}
use Rattle.edition_html.proofs.Bytes.{none, more, short}
use Rattle.edition_html.proofs.put_text.Goals as goal

pub loop-b-init : goal.loop-b-init
loop-b-init g c = none (pageByte c.args.whole) _

pub returns-in_err-put_byte : goal.returns-in_err-put_byte
returns-in_err-put_byte g c =
    let s = short (pageByte c.args.whole) c.args.text.now c.loop-b.b-index (omega arith) in
    longer _ c.from_residual.ensures.0 s (then _ c.loop-b.invariant c.in_err-put_byte.ensures)

pub loop-b-preserved : goal.loop-b-preserved
loop-b-preserved g c = rw (more (pageByte c.args.whole) c.args.text.now c.loop-b.b-index (omega arith)) (then _ c.loop-b.invariant c.in_ok-put_byte.ensures)
