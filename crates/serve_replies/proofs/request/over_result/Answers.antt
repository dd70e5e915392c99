-- `over_result` meets its contract.
use borrow.Author.Tests.{eq-eqb, ne_eqb}
use Rattle.serve_replies.proofs.request.over_result.Goals as goal

pub returns-then-show-eq0 : goal.returns-then-show-eq0
returns-then-show-eq0 c = rw (eq-eqb _ _ c.if-show-eq0.true) c.over.ensures

pub returns-else-show-eq0 : goal.returns-else-show-eq0
returns-else-show-eq0 c = rw (ne_eqb _ _ c.if-show-eq0.false) c.over-else-show-eq0.ensures
