-- `open_words` meets its contract: by the case.
use Rattle.records.specs.Views.{recOpen}
use mathlib.Core.Path.{sym, ap}
use Rattle.records.proofs.seen.open_words.Goals as goal

pub returns-in-Var : goal.returns-in-Var
returns-in-Var c = sym (ap recOpen c.in-Var.is)

pub returns-in-Quant : goal.returns-in-Quant
returns-in-Quant c = sym (ap recOpen c.in-Quant.is)

pub returns-in-Par : goal.returns-in-Par
returns-in-Par c = sym (ap recOpen c.in-Par.is)
