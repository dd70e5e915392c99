use Rattle.std.proofs.Common.{sym, ◌∙◌}
use Rattle.rules.specs.Rounds.{bindTo}
use Rattle.solve_step.proofs.inner.binding.bound.Goals as goal

pub returns-in_err-name : goal.returns-in_err-name
unfolding bindTo
returns-in_err-name c = λ names. rw (c.in_err-name.was, c.from_residual.ensures)

pub returns-then-contains : goal.returns-then-contains
unfolding bindTo
returns-then-contains c = λ names. let a = c.in_ok-name.was in let h = sym (c.contains.ensures names) ∙ c.if-contains.true in rw (a, h)

pub returns : goal.returns
unfolding bindTo
returns c = λ names. let a = c.in_ok-name.was in let h = sym (c.contains.ensures names) ∙ c.if-contains.false in rw (a, h)
