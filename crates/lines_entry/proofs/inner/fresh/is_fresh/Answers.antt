-- `is_fresh` meets its contract.
use mathlib.Core.Path.{sym, ◌∙◌}
use Rattle.rules.specs.Lines.{fresh}
use Rattle.lines_entry.proofs.inner.fresh.is_fresh.Goals as goal

pub returns-then-all_differ : goal.returns-then-all_differ
unfolding fresh
returns-then-all_differ c = rw (sym c.all_differ.ensures ∙ c.if-all_differ.true) c.none_used.ensures

pub returns-else-all_differ : goal.returns-else-all_differ
unfolding fresh
returns-else-all_differ c = rw (sym c.all_differ.ensures ∙ c.if-all_differ.false) c.if-all_differ.false
