-- `type_uses` meets its contract.
use mathlib.Core.Path.{ap, ◌∙◌}
use lib.Dec.{eqb}
use Rattle.rules.specs.Base.{any}
use Rattle.lines_entry.proofs.Used.{type-names}
use Rattle.lines_entry.proofs.inner.fresh.type_uses.Goals as goal

pub returns : goal.returns
returns c = c.used_in.ensures ∙ ap (any (eqb c.args.x)) (type-names _ c.args.t.tree.0 _ _ c.args.t.tree.1 c.end.ensures)
