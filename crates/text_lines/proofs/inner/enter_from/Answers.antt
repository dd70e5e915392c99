-- `inner::enter_from` meets its contract.
use mathlib.Core.Path.{sym, ◌∙◌}
use Rattle.text_lines.proofs.Statements.{comment-done, signs-done}
use Rattle.text_lines.proofs.inner.enter_from.Goals as goal

pub returns-then-next_is-clause-done : goal.returns-then-next_is-clause-done
returns-then-next_is-clause-done c =
    comment-done c.requires.within c.requires.ready (sym c.if-next_is.true ∙ c.next_is.ensures) c.sign-at.ensures

pub returns-clause-done : goal.returns-clause-done
returns-clause-done c =
    signs-done c.requires.within (sym c.if-next_is.false ∙ c.next_is.ensures) c.enter_constraint-end.ensures.done
