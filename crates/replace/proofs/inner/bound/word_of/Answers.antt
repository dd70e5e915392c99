-- `word_of` meets its contract.
use mathlib.Core.Path.{sym, ap, ◌∙◌}
use Rattle.records.specs.Holds.{openOf}
use Rattle.records.specs.declared.Open.{Open}
use Rattle.replace.specs.Places.{word_of}
use Rattle.replace.proofs.inner.bound.word_of.Goals as goal

pub returns-in-Var : goal.returns-in-Var
returns-in-Var c = c.name_word.ensures ∙ ap (λ (o : Open). word_of c.args.places.now (openOf o)) (sym c.in-Var.is)

pub returns-in-Quant : goal.returns-in-Quant
returns-in-Quant c = c.word_at.ensures ∙ ap (λ (o : Open). word_of c.args.places.now (openOf o)) (sym c.in-Quant.is)

pub returns-in-Par : goal.returns-in-Par
returns-in-Par c = c.name_word-in-Par.ensures ∙ ap (λ (o : Open). word_of c.args.places.now (openOf o)) (sym c.in-Par.is)
