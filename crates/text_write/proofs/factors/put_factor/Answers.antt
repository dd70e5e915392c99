-- `put_factor` meets its contract.
use Rattle.text_spell.proofs.Sinks.{cut, then}
use Rattle.text_write.proofs.Parts.{factor-text}
use Rattle.text_write.proofs.factors.put_factor.Goals as goal

pub returns-in_err-put_atom : goal.returns-in_err-put_atom
returns-in_err-put_atom g c = rw factor-text (cut _ _ c.from_residual.ensures.0 c.in_err-put_atom.ensures)

pub returns : goal.returns
returns g c = rw factor-text (then _ c.in_ok-put_atom.ensures c.put_power.ensures)
