-- `inner::chosen` meets its contract: by the case.
use mathlib.Core.Path.{refl, sym}
use Rattle.rules.specs.Base.{collect}
use Rattle.rules.specs.Contents.{variablesIn, parametersIn, namesIn}
use Rattle.queries.proofs.ScanLaws.{choose-quant}
use Rattle.queries.proofs.inner.chosen.Goals as goal

pub returns-in-Variables : goal.returns-in-Variables
unfolding variablesIn parametersIn namesIn collect
returns-in-Variables c = rw (c.in-Var.is, c.in-Variables.is) refl

pub returns-in-Parameters : goal.returns-in-Parameters
unfolding variablesIn parametersIn namesIn collect
returns-in-Parameters c = rw (c.in-Var.is, c.in-Parameters.is) refl

pub returns-in-Both : goal.returns-in-Both
unfolding variablesIn parametersIn namesIn collect
returns-in-Both c = rw (c.in-Var.is, c.in-Both.is) refl

pub returns-in-Quant : goal.returns-in-Quant
returns-in-Quant c = rw c.in-Quant.is (sym (choose-quant c.args.k c.in-Quant.field-0))

pub returns-in-Variables-k : goal.returns-in-Variables-k
unfolding variablesIn parametersIn namesIn collect
returns-in-Variables-k c = rw (c.in-Par.is, c.in-Variables-k.is) refl

pub returns-in-Parameters-k : goal.returns-in-Parameters-k
unfolding variablesIn parametersIn namesIn collect
returns-in-Parameters-k c = rw (c.in-Par.is, c.in-Parameters-k.is) refl

pub returns-in-Both-k : goal.returns-in-Both-k
unfolding variablesIn parametersIn namesIn collect
returns-in-Both-k c = rw (c.in-Par.is, c.in-Both-k.is) refl
