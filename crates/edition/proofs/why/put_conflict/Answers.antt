-- `put_conflict` meets its contract: the head, and then the lines.
use Rattle.text_spell.proofs.Sinks.{then, cut}
use Rattle.edition.specs.Why.{conflictHead}
use Rattle.edition.proofs.why.put_conflict.Goals as goal

pub returns-in_err-put : goal.returns-in_err-put
unfolding conflictHead
returns-in_err-put g c = cut _ _ c.from_residual.ensures.0 c.in_err-put.ensures

pub returns : goal.returns
unfolding conflictHead
returns g c = then _ c.in_ok-put.ensures c.put_lines.ensures
