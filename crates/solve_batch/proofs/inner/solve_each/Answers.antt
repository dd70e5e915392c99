-- `inner::solve_each` meets its contract.
use Rattle.std.proofs.Common.{refl, ap, ◌∙◌, ◌-◌, ◌+◌, ◌*◌, arith}
use Rattle.rules.specs.Batches.{recordsOf}
use Rattle.solve_batch.proofs.Steps.{doing-first, doing-next, doing-last, room-left, one_written, told-at}
use Rattle.solve_batch.proofs.inner.solve_each.Goals as goal

pub sets-init : goal.sets-init
sets-init c = (doing-first _ _ _ _ _ c.requires.begun.sums, refl)

pub four_words-requires : goal.four_words-requires
four_words-requires c =
    let l = c.sets in
    let r = room-left _ _ _ l.invariant.0 c.sets-test.true c.requires.begun.results in
    let w = one_written _ l.res _ (l.out * 4) (l.out * 4 + 8192 - l.out * 4) (omega (arith, r)) (omega arith)
    c.solve_set-s.auto.res c.solve_set-s.ensures.answer c.solve_set-s.ensures.buffer in
    omega (arith, ap recordsOf w.answer, w.few)

pub records-out-requires : goal.records-out-requires
records-out-requires c =
    let l = c.sets in
    let r = room-left _ _ _ l.invariant.0 c.sets-test.true c.requires.begun.results in
    let w = one_written _ l.res _ (l.out * 4) (l.out * 4 + 8192 - l.out * 4) (omega (arith, r)) (omega arith)
    c.solve_set-s.auto.res c.solve_set-s.ensures.answer c.solve_set-s.ensures.buffer in
    omega (arith, ap recordsOf w.answer, w.few)

pub overflow_add-out : goal.overflow_add-out
overflow_add-out c =
    let l = c.sets in
    let r = room-left _ _ _ l.invariant.0 c.sets-test.true c.requires.begun.results in
    let w = one_written _ l.res _ (l.out * 4) (l.out * 4 + 8192 - l.out * 4) (omega (arith, r)) (omega arith)
    c.solve_set-s.auto.res c.solve_set-s.ensures.answer c.solve_set-s.ensures.buffer in
    omega (arith, c.records-out.ensures, ap recordsOf w.answer, w.few, l.invariant.0.few, c.requires.begun.few, c.sets-test.true)

pub sets-preserved : goal.sets-preserved
sets-preserved c =
    let l = c.sets in
    let b = c.requires.begun in
    let r = room-left _ _ _ l.invariant.0 c.sets-test.true b.results in
    let w = one_written _ l.res _ (l.out * 4) (l.out * 4 + 8192 - l.out * 4) (omega (arith, r)) (omega arith)
    c.solve_set-s.auto.res c.solve_set-s.ensures.answer c.solve_set-s.ensures.buffer in (
      doing-next _ _ _ l.invariant.0 c.sets-test.true w
          (told-at l.answers _ (l.i * 4) (l.i * 4 + 4 - l.i * 4) _ _ (c.copy_from_slice.ensures.after ∙ c.four_words.ensures) w.answer (omega arith)
          (omega (arith, b.answer, c.sets-test.true)))
          (omega (arith, c.records-out.ensures, ap recordsOf w.answer)),
      c.solve_set-s.auto.work ∙ l.invariant.1,
    )

pub returns : goal.returns
returns c =
    let b = c.requires.begun in
    doing-last _ _ _ c.sets.invariant.0 c.sets-test.false b.results b.answer
