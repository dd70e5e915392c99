-- `inner::put_standing` meets its contract.
use Rattle.std.proofs.Common.{sym, ◌∙◌}
use Rattle.solve_conflict.proofs.Steps.{putting-init, putting-first, putting-narrow, putting-not, putting-end}
use Rattle.solve_conflict.proofs.inner.put_standing.Goals as goal
use Rattle.solve_conflict.proofs.inner.put_standing.Goals.{else-here-via-then-here+else-is_wide, else-here-via-else-here}

pub standing-init : goal.standing-init
standing-init c =
    rw c.into_iter-c-iterator.ensures.into_iter_gives (putting-init _ c.args.out.now c.args.out.now c.args.set.trees.0 c.args.set.words.now c.args.set.at)

pub standing-preserved-then-is_wide : goal.standing-preserved-then-is_wide
standing-preserved-then-is_wide c =
    putting-first _ _ _ _ _ _ _ _ c.in-Some.ensures.steps c.standing.invariant _ c.if-here.true
    (sym c.is_wide.ensures ∙ c.if-is_wide.true) c.copy_constraint.ensures

pub standing-preserved : goal.standing-preserved
standing-preserved c = elim c.else-here.branch [
  | else-here-via-then-here+else-is_wide w ↦
      putting-narrow _ _ _ _ _ _ _ _ c.in-Some.ensures.steps c.standing.invariant w.if-here.true (sym w.is_wide.ensures ∙ w.if-is_wide.false)
  | else-here-via-else-here w ↦ putting-not _ _ _ _ _ _ _ _ c.in-Some.ensures.steps c.standing.invariant w.if-here.false
]

pub returns : goal.returns
returns c = putting-end _ _ _ _ _ _ c.in-None.ensures.steps.0 c.standing.invariant
