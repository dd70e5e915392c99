-- `inner::enter_constraint` meets its contract.
use Rattle.text_lines.proofs.Statements.{constraint-done}
use Rattle.text_lines.proofs.inner.enter_constraint.Goals as goal

pub returns-clause-done : goal.returns-clause-done
returns-clause-done c =
    constraint-done c.enter_stated-c.ensures.done c.next_sign-e.ensures c.end_at-at.ensures
