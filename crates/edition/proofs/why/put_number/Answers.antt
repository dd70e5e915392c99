-- `put_number` meets its contract: piece by piece.
use Rattle.text_spell.proofs.Sinks.{then}
use Rattle.edition.proofs.why.put_number.Goals as goal

pub returns : goal.returns
returns g c = then _ c.in_ok-put.ensures (then _ c.in_ok-put_amount.ensures c.put-2.ensures)
