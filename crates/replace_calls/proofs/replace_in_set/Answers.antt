-- `replace_in_set` meets its contract.
use mathlib.Core.Path.{ap, ◌∙◌}
use mathlib.Core.Bool.{not}
use Rattle.std.specs.Prelude.{List}
use Rattle.rules.specs.Base.{Got, collect}
use Rattle.rules.specs.Calls.{setGiven, replacedSet}
use Rattle.rules.specs.Trees.{opensCon}
use Rattle.rules.specs.Writing.{Rec}
use Rattle.records_buffers.specs.Told.{handed}
use Rattle.replace_calls.specs.Made.{madeSet}
use Rattle.replace_calls.proofs.Checks.{tested}
use Rattle.records_buffers.proofs.OnLent.{Long, long, short}
use Rattle.replace_calls.proofs.Whole.{set-short, set-called}
use Rattle.replace_calls.proofs.replace_in_set.Goals as goal

pub returns-then-not-lent : goal.returns-then-not-lent
returns-then-not-lent c = set-short _ _ _ _ _ _ (short _ _ _ _ c.lent.result c.lent.ensures (ap not c.if-not-lent.true))

pub make_set-made-requires : goal.make_set-made-requires
make_set-made-requires c = let enough : Long c.args.pool.now c.args.table.now c.args.res.now c.args.work.now =
    long _ _ _ _ c.lent.result c.lent.ensures (ap not c.if-not-lent.false) in
    enough.work-long

pub hand_over-requires : goal.hand_over-requires
hand_over-requires c = let enough : Long c.args.pool.now c.args.table.now c.args.res.now c.args.work.now =
    long _ _ _ _ c.lent.result c.lent.ensures (ap not c.if-not-lent.false) in
    record { made = (_, c.make_set-made.ensures); room = enough.result-long }

pub returns : goal.returns
unfolding replacedSet
returns c = let enough : Long c.args.pool.now c.args.table.now c.args.res.now c.args.work.now =
    long _ _ _ _ c.lent.result c.lent.ensures (ap not c.if-not-lent.false) in
    let t = tested setGiven (collect opensCon) madeSet _ _ enough.table-met c.args.words.now c.args.binds.now _ c.new-names.ensures.answer
    c.new-names.ensures.same in
    let made = c.make_set-made in
    c.hand_over.ensures _ made.ensures
    ∙ ap (λ (m : Got (List Rec)). handed m c.args.res.now made.new.work) t
    ∙ set-called _ _ _ _ _ _ made.new.work made.auto.work enough.met
