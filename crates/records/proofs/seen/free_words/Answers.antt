-- `free_words` meets its contract: by the case.
use Rattle.records.specs.Views.{recFree}
use Rattle.records.specs.declared.Open.{Open}
use mathlib.Core.Path.{sym, ap}
use Rattle.records.proofs.seen.free_words.Goals as goal

pub returns-in-Var : goal.returns-in-Var
returns-in-Var c = sym (ap (λ (x : Open). recFree x c.args.num c.args.den) c.in-Var.is)

pub returns-in-Quant : goal.returns-in-Quant
returns-in-Quant c = sym (ap (λ (x : Open). recFree x c.args.num c.args.den) c.in-Quant.is)

pub returns-in-Par : goal.returns-in-Par
returns-in-Par c = sym (ap (λ (x : Open). recFree x c.args.num c.args.den) c.in-Par.is)
