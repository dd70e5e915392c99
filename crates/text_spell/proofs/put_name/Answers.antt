-- `put_name` meets its contract: the bytes before the index are put.
use Rattle.std.proofs.Common.{arith}
use Rattle.text_spell.proofs.Sinks.{then, longer}
use Rattle.text_spell.proofs.Names.{no_name, name_more, next_short}
use Rattle.text_spell.proofs.put_name.Goals as goal

pub loop-b-init : goal.loop-b-init
loop-b-init g c = no_name _

pub returns-in_err-put_escaped : goal.returns-in_err-put_escaped
returns-in_err-put_escaped g c =
    let n = c.args.name.now in
    let i = c.loop-b.b-index in
    longer _ c.from_residual.ensures.0 (next_short n i (omega arith)) (then _ c.loop-b.invariant c.in_err-put_escaped.ensures)

pub loop-b-preserved : goal.loop-b-preserved
loop-b-preserved g c = rw (name_more c.args.name.now c.loop-b.b-index (omega arith)) (then _ c.loop-b.invariant c.in_ok-put_escaped.ensures)
