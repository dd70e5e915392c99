use Rattle.std.proofs.Common.{refl}
use Rattle.rules.specs.Base.{collect}
use Rattle.rules.specs.Contents.{variablesIn}
use Rattle.solve_add.proofs.inner.testing.is_constant.Goals as goal

pub returns-in-Var : goal.returns-in-Var
unfolding variablesIn collect
returns-in-Var c = rw (c.in-Free.is, c.in-Var.is) refl

pub returns-in-Quant : goal.returns-in-Quant
unfolding variablesIn collect
returns-in-Quant c = rw (c.in-Free.is, c.in-Quant.is) refl

pub returns-in-Par : goal.returns-in-Par
unfolding variablesIn collect
returns-in-Par c = rw (c.in-Free.is, c.in-Par.is) refl

pub returns-in-Base : goal.returns-in-Base
unfolding variablesIn collect
returns-in-Base c = rw c.in-Base.is refl
