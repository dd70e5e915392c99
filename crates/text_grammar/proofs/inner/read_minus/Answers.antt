-- `inner::read_minus` meets its contract.
use mathlib.Core.Path.{sym, ◌∙◌}
use Rattle.text_grammar.proofs.Powers.{with-minus, without-minus}
use Rattle.text_grammar.proofs.inner.read_minus.Goals as goal

pub returns-then-next_is : goal.returns-then-next_is
returns-then-next_is c = with-minus (sym c.if-next_is.true ∙ c.next_is.ensures) c.mark-a.ensures.reads

pub returns : goal.returns
returns c = without-minus c.requires (sym c.if-next_is.false ∙ c.next_is.ensures)
