-- `inner::enter_stated` meets its contract.
use mathlib.Core.Path.{sym, ◌∙◌}
use Rattle.text_lines.proofs.Statements.{stated-field, stated-type}
use Rattle.text_lines.proofs.inner.enter_stated.Goals as goal

pub returns-then-next_is-clause-done : goal.returns-then-next_is-clause-done
returns-then-next_is-clause-done c =
    stated-field (sym c.if-next_is.true ∙ c.next_is.ensures) c.enter_has_field.ensures.done

pub returns-clause-done : goal.returns-clause-done
returns-clause-done c =
    stated-type (sym c.if-next_is.false ∙ c.next_is.ensures) c.enter_typed.ensures.done
