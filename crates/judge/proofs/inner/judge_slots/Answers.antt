-- `inner::judge_slots` meets its contract.
use mathlib.Core.Path.{refl, sym, ap, ◌∙◌}
use mathlib.Core.Bool.{Bool}
use Rattle.std.specs.Prelude.{Err}
use Rattle.rules.specs.Base.{need}
use Rattle.rules.specs.declared.Refusal.TheVariants.{ShortBuffer}
use Rattle.judge.proofs.Entry.{call-short, called, all-lent, tested}
use Rattle.judge.proofs.inner.judge_slots.Goals as goal

pub returns-then-not-lent : goal.returns-then-not-lent
returns-then-not-lent c = λ es h.
    call-short c.args.pool.now c.args.table.now c.args.set.now c.args.proposal.types.now c.args.proposal.bounds.now c.args.work.now es
    (Err ShortBuffer) refl (sym c.lent.ensures ∙ ap (λ (b : Bool). need b 10) (c.if-not-lent.true))

pub judge_set-answer-requires : goal.judge_set-answer-requires
judge_set-answer-requires c =
    let e = sym c.lent.ensures ∙ ap (λ (b : Bool). need b 10) (c.if-not-lent.false) in
    let k = (all-lent c.args.pool.now c.args.table.now c.args.work.now e).1 in
    record { entries_slotted = c.requires; work_room = k }

pub returns : goal.returns
returns c = λ es h.
    let e = sym c.lent.ensures ∙ ap (λ (b : Bool). need b 10) (c.if-not-lent.false) in
    let l = (all-lent c.args.pool.now c.args.table.now c.args.work.now e).0 in
    let t = tested c.args.set.now c.args.proposal.types.now c.args.proposal.bounds.now es c.args.pool.now c.args.table.now l _
    c.new-names.ensures.answer c.new-names.ensures.same in
    called c.args.pool.now c.args.table.now c.args.set.now c.args.proposal.types.now c.args.proposal.bounds.now c.args.work.now es c.judge_set-answer.result
    c.judge_set-answer.new.work _ c.judge_set-answer.auto.work e (c.judge_set-answer.ensures es h ∙ t) c.clear.ensures
