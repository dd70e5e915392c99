-- `replace_in_type` meets its contract.
use mathlib.Core.Path.{ap, ◌∙◌}
use mathlib.Core.Bool.{not}
use Rattle.std.specs.Prelude.{List}
use Rattle.rules.specs.Base.{Got}
use Rattle.rules.specs.Calls.{typeGiven, replacedType}
use Rattle.rules.specs.Trees.{opens}
use Rattle.rules.specs.Writing.{Rec}
use Rattle.records_buffers.specs.Told.{handed}
use Rattle.replace_calls.specs.Made.{madeType}
use Rattle.replace_calls.proofs.Checks.{tested}
use Rattle.records_buffers.proofs.OnLent.{Long, long, short}
use Rattle.replace_calls.proofs.Whole.{type-short, type-called}
use Rattle.replace_calls.proofs.replace_in_type.Goals as goal

pub returns-then-not-lent : goal.returns-then-not-lent
returns-then-not-lent c = type-short _ _ _ _ _ _ (short _ _ _ _ c.lent.result c.lent.ensures (ap not c.if-not-lent.true))

pub make_type-made-requires : goal.make_type-made-requires
make_type-made-requires c = let enough : Long c.args.pool.now c.args.table.now c.args.res.now c.args.work.now =
    long _ _ _ _ c.lent.result c.lent.ensures (ap not c.if-not-lent.false) in
    enough.work-long

pub hand_over-requires : goal.hand_over-requires
hand_over-requires c = let enough : Long c.args.pool.now c.args.table.now c.args.res.now c.args.work.now =
    long _ _ _ _ c.lent.result c.lent.ensures (ap not c.if-not-lent.false) in
    record { made = (_, c.make_type-made.ensures); room = enough.result-long }

pub returns : goal.returns
unfolding replacedType
returns c = let enough : Long c.args.pool.now c.args.table.now c.args.res.now c.args.work.now =
    long _ _ _ _ c.lent.result c.lent.ensures (ap not c.if-not-lent.false) in
    let t = tested typeGiven opens madeType _ _ enough.table-met c.args.words.now c.args.binds.now _ c.new-names.ensures.answer
    c.new-names.ensures.same in
    let made = c.make_type-made in
    c.hand_over.ensures _ made.ensures
    ∙ ap (λ (m : Got (List Rec)). handed m c.args.res.now made.new.work) t
    ∙ type-called _ _ _ _ _ _ made.new.work made.auto.work enough.met
