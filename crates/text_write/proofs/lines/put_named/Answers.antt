-- `put_named` meets its contract.
use Rattle.text_spell.proofs.Sinks.{cut, then}
use Rattle.text_write.proofs.lines.put_named.Goals as goal

pub returns-in_err-put_held : goal.returns-in_err-put_held
returns-in_err-put_held g c = then _ c.in_ok-put.ensures (cut _ _ c.from_residual-in_err-put_held.ensures.0 c.in_err-put_held.ensures)

pub returns : goal.returns
returns g c = then _ c.in_ok-put.ensures (then _ c.in_ok-put_held.ensures c.put-2.ensures)
