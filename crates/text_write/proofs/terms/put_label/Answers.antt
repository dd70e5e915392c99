-- `put_label` meets its contract.
use Rattle.text_spell.proofs.Sinks.{then}
use Rattle.text_write.proofs.terms.put_label.Goals as goal

pub returns : goal.returns
returns g c = then _ c.in_ok-put_comma.ensures (then _ c.in_ok-put_held.ensures c.put.ensures)
