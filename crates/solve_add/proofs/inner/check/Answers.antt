-- `inner::check` meets its contract.
use Rattle.std.proofs.Common.{sym, ap, arith, ◌∙◌, ◌*◌}
use Rattle.std.specs.Prelude.{not}
use lib.Seq.{length-take-le}
use Rattle.std.proofs.lemmas.Result.{err_from_is_err_and}
use Rattle.solve_add.proofs.Checked.{if-given, lent-failed, lent_met, room, count_long, con-long, set-refused, set-passed}
use Rattle.solve_add.proofs.inner.check.Goals as goal
use Rattle.solve_add.proofs.inner.check.Goals.{
  then-count-gt-RECORDS-via-then-count-gt-RECORDS,
  then-count-gt-RECORDS-via-else-count-gt-RECORDS+then-con-gt-RECORD_WORDS,
}

pub returns-then-not-lent-clause-answer : goal.returns-then-not-lent-clause-answer
returns-then-not-lent-clause-answer c = lent-failed _ _ _ _ _ c.lent.result c.lent.ensures (ap not c.if-not-lent.true)

pub returns-then-count-gt-RECORDS-clause-answer : goal.returns-then-count-gt-RECORDS-clause-answer
returns-then-count-gt-RECORDS-clause-answer c =
    let a = c.args in
    let met = lent_met a.pool.now a.table.now a.buffer.now c.lent.result c.lent.ensures (ap not c.if-not-lent.false) in
    elim c.then-count-gt-RECORDS.branch [
      | then-count-gt-RECORDS-via-then-count-gt-RECORDS w ↦ count_long _ _ _ _ _ met w.if-count-gt-RECORDS.true
      | then-count-gt-RECORDS-via-else-count-gt-RECORDS+then-con-gt-RECORD_WORDS w ↦
          con-long _ _ _ _ _ met w.if-count-gt-RECORDS.false w.if-con-gt-RECORD_WORDS.true
    ]

pub slice_bounds-new-end : goal.slice_bounds-new-end
slice_bounds-new-end c =
    let a = c.args in
    let met = lent_met a.pool.now a.table.now a.buffer.now c.lent.result c.lent.ensures (ap not c.if-not-lent.false) in
    sym (length-take-le (a.count * 4) a.buffer.now (omega (arith, room _ _ _ met, c.if-count-gt-RECORDS.false)))

pub returns-in_err-new-clause-answer : goal.returns-in_err-new-clause-answer
returns-in_err-new-clause-answer c =
    let a = c.args in
    let met = lent_met a.pool.now a.table.now a.buffer.now c.lent.result c.lent.ensures (ap not c.if-not-lent.false) in
    let p = err_from_is_err_and c.from_residual.result c.from_residual.ensures.1 in
    rw (p.1, p.2)
    (set-refused _ _ _ _ _ met c.if-count-gt-RECORDS.false c.if-con-gt-RECORD_WORDS.false _ c.new-names.ensures.answer c.new-names.ensures.same
    c.in_err-new.ensures.answer)

pub returns-clause-answer : goal.returns-clause-answer
returns-clause-answer c =
    let a = c.args in
    let met = lent_met a.pool.now a.table.now a.buffer.now c.lent.result c.lent.ensures (ap not c.if-not-lent.false) in
    c.one_constraint.ensures
    ∙ set-passed _ _ _ _ _ met c.if-count-gt-RECORDS.false c.if-con-gt-RECORD_WORDS.false _ c.new-names.ensures.answer c.new-names.ensures.same
    c.in_ok-new.ensures.answer

pub returns-clause-words : goal.returns-clause-words
returns-clause-words c = if-given c.one_constraint.result (record { word = λ i. (c.type_inv.buffer i).fits })
