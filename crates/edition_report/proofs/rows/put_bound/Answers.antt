-- `put_bound` meets its contract.
use Rattle.text_spell.proofs.Sinks.{then}
use Rattle.edition_report.proofs.rows.put_bound.Goals as goal

pub returns : goal.returns
returns g c = then _ c.in_ok-put.ensures (then _ c.in_ok-put_bare.ensures c.put-2.ensures)
