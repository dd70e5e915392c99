-- `bound_words` meets its contract: by the case.
use Rattle.records.specs.Views.{recBound}
use mathlib.Core.Path.{sym, ap}
use Rattle.records.proofs.seen.bound_words.Goals as goal

pub returns-in-Var : goal.returns-in-Var
returns-in-Var c = sym (ap recBound c.in-Var.is)

pub returns-in-Quant : goal.returns-in-Quant
returns-in-Quant c = sym (ap recBound c.in-Quant.is)

pub returns-in-Par : goal.returns-in-Par
returns-in-Par c = sym (ap recBound c.in-Par.is)
