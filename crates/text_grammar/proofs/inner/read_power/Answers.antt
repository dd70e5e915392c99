-- `inner::read_power` meets its contract.
use Rattle.text_grammar.proofs.Powers.{power-read}
use Rattle.text_grammar.proofs.inner.read_power.Goals as goal

pub returns : goal.returns
returns c =
    power-read c.next_sign-s.ensures c.mark-a.ensures.reads c.mark-b.ensures.reads c.read_minus-m.ensures
    c.read_digits-n.ensures c.read_denominator-d.ensures c.mark-end.ensures.reads
