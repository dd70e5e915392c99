use Rattle.solve_add.proofs.Others.{as-power, as-open, as-other}
use Rattle.solve_add.proofs.inner.testing.is_solid.Goals as goal

pub returns-in-Some : goal.returns-in-Some
returns-in-Some c = as-power _ c.power_variable.ensures c.in-Some.is

pub returns-in-Open : goal.returns-in-Open
returns-in-Open c = as-open _ c.in-Open.ensures

pub returns-in_default : goal.returns-in_default
returns-in_default c = as-other _ _ c.power_variable.ensures c.in-None.is c.shape.ensures c.in_default.not-Open
