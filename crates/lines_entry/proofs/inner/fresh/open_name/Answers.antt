-- `inner::fresh::open_name` meets its contract.
use mathlib.Core.Path.{refl}
use Rattle.lines_entry.proofs.inner.fresh.open_name.Goals as goal

pub returns-in-Var : goal.returns-in-Var
returns-in-Var c = rw c.in-Var.is refl

pub returns-in-Quant : goal.returns-in-Quant
returns-in-Quant c = rw c.in-Quant.is refl

pub returns-in-Par : goal.returns-in-Par
returns-in-Par c = rw c.in-Par.is refl
