-- `inner::read_denominator` meets its contract.
use mathlib.Core.Path.{sym, ◌∙◌}
use Rattle.text_grammar.proofs.Powers.{with-denominator, without-denominator}
use Rattle.text_grammar.proofs.inner.read_denominator.Goals as goal

pub returns-then-next_is : goal.returns-then-next_is
returns-then-next_is c = with-denominator (sym c.if-next_is.true ∙ c.next_is.ensures) c.mark-a.ensures.reads c.read_digits.ensures

pub returns : goal.returns
returns c = without-denominator c.requires (sym c.if-next_is.false ∙ c.next_is.ensures)
