use Rattle.solve_finish.proofs.Asked.{named, unnamed, otherwise}
use Rattle.solve_finish.proofs.inner.bound_of.Goals as goal

pub returns-in-Open : goal.returns-in-Open
returns-in-Open c = named c.in-IsDimension.ensures c.in-Open.ensures c.name_of.ensures

pub returns-in_default-shape : goal.returns-in_default-shape
returns-in_default-shape c = unnamed _ c.in-IsDimension.ensures c.shape.ensures c.in_default-shape.not-Open

pub returns-in_default : goal.returns-in_default
returns-in_default c = otherwise _ c.demand.ensures c.in_default.not-IsDimension
