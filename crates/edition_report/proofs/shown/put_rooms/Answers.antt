-- `put_rooms` meets its contract: the blanks under the bytes before the index are put.
use Rattle.std.proofs.Common.{arith}
use Rattle.text_spell.proofs.Sinks.{then, longer}
use Rattle.edition_report.proofs.Bytes.{no_rooms, rooms_more, rooms_short}
use Rattle.edition_report.proofs.shown.put_rooms.Goals as goal

pub loop-b-init : goal.loop-b-init
loop-b-init g c = no_rooms _

pub returns-in_err-put_room : goal.returns-in_err-put_room
returns-in_err-put_room g c =
    let t = c.args.part.now in
    let i = c.loop-b.b-index in
    longer _ c.from_residual.ensures.0 (rooms_short t i (omega arith)) (then _ c.loop-b.invariant c.in_err-put_room.ensures)

pub loop-b-preserved : goal.loop-b-preserved
loop-b-preserved g c = rw (rooms_more c.args.part.now c.loop-b.b-index (omega arith)) (then _ c.loop-b.invariant c.in_ok-put_room.ensures)
