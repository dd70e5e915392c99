-- `free_factor` meets its contract.
use mathlib.Core.Path.{sym, ap}
use Rattle.rules.specs.Trees.{◌↑◌, free}
use Rattle.rules.specs.Values.{value_of, kind_of, number_in}
use Rattle.exponents.specs.Answers.{expOf}
use Rattle.records.specs.Holds.{openOf}
use Rattle.records.specs.declared.Open.{Open}
use Rattle.replace.proofs.inner.factors.free_factor.Goals as goal

pub returns-in-Var : goal.returns-in-Var
unfolding value_of kind_of number_in
returns-in-Var c = ap (λ (o : Open). value_of (free (openOf o) ↑ expOf c.args.exp)) (sym c.in-Var.is)

pub returns-in-Quant : goal.returns-in-Quant
unfolding value_of kind_of number_in
returns-in-Quant c = ap (λ (o : Open). value_of (free (openOf o) ↑ expOf c.args.exp)) (sym c.in-Quant.is)

pub returns-in-Par : goal.returns-in-Par
unfolding value_of kind_of number_in
returns-in-Par c = ap (λ (o : Open). value_of (free (openOf o) ↑ expOf c.args.exp)) (sym c.in-Par.is)
