-- `put_numerator` meets its contract.
use Rattle.text_spell.proofs.Sinks.{then}
use Rattle.text_spell.proofs.Names.{negative}
use Rattle.text_spell.proofs.put_numerator.Goals as goal

pub returns : goal.returns
returns g c = rw (negative c.args.b c.if-b-lt2147483648.false) (then _ c.in_ok-put.ensures c.put_digits-2.ensures)
