-- `inner::lowest_of` meets its contract.
use mathlib.Core.Path.{sym, ap, ◌∙◌}
use Rattle.text_grammar.proofs.Values.{word_good, words-quotient}
use Rattle.laws.proofs.Lists.{got≢refused}
use Rattle.rules.specs.Refusals.{toldBy}
use Rattle.exponents.specs.Answers.{expOf}
use Rattle.text_grammar.proofs.inner.lowest_of.Goals as goal

pub quotient_of-requires : goal.quotient_of-requires
quotient_of-requires c = (word_good c.requires.0 c.from_words.ensures, word_good c.requires.2 c.from_words-2.ensures)

pub returns-in-Ok : goal.returns-in-Ok
returns-in-Ok c =
    let w = words-quotient _ _ c.requires.0 c.requires.1 c.requires.2 c.from_words.ensures c.from_words-2.ensures c.quotient_of.ensures in
    let v = sym (ap (toldBy expOf) c.in-Ok.is) ∙ w in
    cc

pub returns-in-Err : goal.returns-in-Err
returns-in-Err c =
    let w = words-quotient _ _ c.requires.0 c.requires.1 c.requires.2 c.from_words.ensures c.from_words-2.ensures c.quotient_of.ensures in
    absurd (got≢refused (sym w ∙ ap (toldBy expOf) c.in-Err.is))
