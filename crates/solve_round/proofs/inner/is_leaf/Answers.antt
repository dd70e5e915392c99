-- `inner::is_leaf` meets its contract.
use Rattle.std.proofs.Common.{ap, sym, ◌∙◌}
use Rattle.solve_round.specs.Parts.{leaf}
use Rattle.types.specs.Shapes.{whole}
use Rattle.solve_round.proofs.inner.is_leaf.Goals as goal

pub returns-in-Open : goal.returns-in-Open
unfolding leaf
returns-in-Open c = ap leaf (sym (ap whole c.in-Open.is) ∙ c.shape.ensures)

pub returns-in-Basic : goal.returns-in-Basic
unfolding leaf
returns-in-Basic c = ap leaf (sym (ap whole c.in-Basic.is) ∙ c.shape.ensures)

pub returns-in-Dimension : goal.returns-in-Dimension
unfolding leaf
returns-in-Dimension c = ap leaf (sym (ap whole c.in-Dimension.is) ∙ c.shape.ensures)

pub returns-in-Function : goal.returns-in-Function
unfolding leaf
returns-in-Function c = ap leaf (sym (ap whole c.in-Function.is) ∙ c.shape.ensures)

pub returns-in-Struct : goal.returns-in-Struct
unfolding leaf
returns-in-Struct c = ap leaf (sym (ap whole c.in-Struct.is) ∙ c.shape.ensures)

pub returns-in-List : goal.returns-in-List
unfolding leaf
returns-in-List c = ap leaf (sym (ap whole c.in-List.is) ∙ c.shape.ensures)
