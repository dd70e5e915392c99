use Rattle.std.proofs.Common.{arith, sym, ◌∙◌}
use Rattle.schemes_handed.proofs.OnBounds.{going-start, going-on, going-other, going-end}
use Rattle.schemes_handed.proofs.inner.bounds.put_bounds.Goals.{in-Bound, in_default}
use Rattle.schemes_handed.proofs.inner.bounds.put_bounds.Goals as goal

pub loop-i-init : goal.loop-i-init
loop-i-init c = λ f l. let a = c.args in going-start a.bounds.words.now a.all f a.bounds.listed.0 _ a.bounds.listed.1

pub returns : goal.returns
returns c = λ f l. let a = c.args
    in going-end a.bounds.words.now a.all f a.bounds.listed.0 _ (c.loop-i.invariant f l) (omega (arith, c.loop-i-test.false))

pub loop-i-preserved : goal.loop-i-preserved
loop-i-preserved c = λ f l.
    let a = c.args in
    let g = c.loop-i.invariant f l in
    elim c.match-view_at.branch [
      | in-Bound w ↦ rw w.out-is
          (going-on a.bounds.words.now a.all f a.bounds.listed.0 _ g w.in-Bound.o (sym c.view_at.ensures ∙ w.in-Bound.is) (w.put_bound.ensures f l))
      | in_default w ↦ absurd
          (going-other a.bounds.words.now a.all f a.bounds.listed.0 _ g c.loop-i-test.true (λ o e. w.in_default.not-Bound o (c.view_at.ensures ∙ e)))
    ]
