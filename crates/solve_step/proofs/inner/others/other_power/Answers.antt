use Rattle.std.proofs.Common.{ap, ◌∙◌}
use Rattle.rules.specs.Base.{bounded}
use Rattle.rules.specs.Exponents.{Exp, goodExp, neg, quotient}
use Rattle.laws.proofs.Ranges.{neg-good}
use Rattle.exponents.specs.Answers.{expOf}
use Rattle.solve_step.proofs.inner.others.other_power.Goals as goal

pub quotient_of-requires : goal.quotient_of-requires
quotient_of-requires c = (
  ap goodExp c.negative_of.ensures
      ∙ neg-good (expOf c.from_words.result) (ap goodExp c.from_words.ensures ∙ c.requires.0),
  c.requires.1,
)

pub returns : goal.returns
returns c =
    c.quotient_of.ensures ∙ ap (λ (e : Exp). quotient bounded e (expOf c.args.k)) (c.negative_of.ensures ∙ ap neg c.from_words.ensures)
