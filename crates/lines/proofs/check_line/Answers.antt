-- `check_line` meets its contract.
use mathlib.Core.Path.{sym, ap, ◌∙◌}
use mathlib.Core.Bool.{Bool}
use Rattle.std.specs.Prelude.{List}
use Rattle.rules.specs.Base.{Got, need}
use Rattle.rules.specs.Writing.{Rec}
use Rattle.records_buffers.specs.Told.{handed}
use Rattle.lines.proofs.Whole.{Room, room-is, call-short, called, tested}
use Rattle.lines.proofs.check_line.Goals as goal

pub returns-then-not-room : goal.returns-then-not-room
returns-then-not-room c =
    call-short _ _ _ _ _ _ _ _ (sym c.room.ensures ∙ ap (λ (b : Bool). need b 10) (c.if-not-room.true))

pub make_line-made-requires : goal.make_line-made-requires
make_line-made-requires c =
    let r : Room c.args.pool.now c.args.table.now c.args.steps.now c.args.types.now c.args.lines.now c.args.names.now c.args.res.now c.args.work.now =
    room-is _ _ _ _ _ _ _ _ (sym c.room.ensures ∙ ap (λ (b : Bool). need b 10) (c.if-not-room.false)) in
    record { lent = r.enough; room = r.lent-long.work-long }

pub hand_over-requires : goal.hand_over-requires
hand_over-requires c =
    let r : Room c.args.pool.now c.args.table.now c.args.steps.now c.args.types.now c.args.lines.now c.args.names.now c.args.res.now c.args.work.now =
    room-is _ _ _ _ _ _ _ _ (sym c.room.ensures ∙ ap (λ (b : Bool). need b 10) (c.if-not-room.false)) in
    record { made = (_, c.make_line-made.ensures); room = r.lent-long.result-long }

pub returns : goal.returns
returns c =
    let r : Room c.args.pool.now c.args.table.now c.args.steps.now c.args.types.now c.args.lines.now c.args.names.now c.args.res.now c.args.work.now =
    room-is _ _ _ _ _ _ _ _ (sym c.room.ensures ∙ ap (λ (b : Bool). need b 10) (c.if-not-room.false)) in
    let over = tested c.args.pool.now c.args.table.now c.args.steps.now c.args.types.now c.args.lines.now c.args.names.now r.lent-long.table-met _
    c.new.ensures.answer c.new.ensures.same in
    c.hand_over.ensures _ c.make_line-made.ensures
    ∙ ap (λ (m : Got (List Rec)). handed m c.args.res.now c.make_line-made.new.work) over
    ∙ called _ _ _ _ _ _ _ _ c.make_line-made.new.work c.make_line-made.auto.work
    (sym c.room.ensures ∙ ap (λ (b : Bool). need b 10) (c.if-not-room.false))
