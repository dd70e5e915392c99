-- `put_binding` meets its contract.
use Rattle.text_spell.proofs.Sinks.{then}
use Rattle.edition_report.proofs.rows.put_binding.Goals as goal

pub returns : goal.returns
returns g c = then _ c.in_ok-put.ensures (then _ c.in_ok-put_open.ensures (then _ c.in_ok-put-2.ensures (then _ c.in_ok-write_type.ensures c.put-3.ensures)))
