-- `put_digits` meets its contract.
use Rattle.text_spell.proofs.Sinks.{then}
use Rattle.text_spell.proofs.Names.{more_digits}
use Rattle.text_spell.proofs.+put_digits.Goals as goal

pub returns : goal.returns
returns g t c = rw (more_digits c.args.k c.args.n c.if-k-eq0.false c.if-n-lt10.false) (then _ c.in_ok-put_digits.ensures c.put-2.ensures)
