-- The order of two numbers is that of their names.
use mathlib.Core.Path.{◌∙◌, ap₂}
use Rattle.rules.specs.Names.{orderBytes, numbered}
use Rattle.names.proofs.tables.NameTable.order.Goals as goal

pub returns : goal.returns
unfolding numbered
returns c = c.compare.ensures ∙ ap₂ orderBytes c.name.ensures c.name-2.ensures
