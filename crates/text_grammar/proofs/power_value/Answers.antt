-- `power_value` meets its contract.
use mathlib.Core.Path.{sym, ap, ◌∙◌}
use native.Mathlib.Omega.{arith}
use mathlib.Core.Bool.{Bool}
use lib.IntN.{pos}
use Rattle.rules.specs.Base.{got}
use Rattle.rules.specs.Exponents.{neg, goodExp, lowest}
use Rattle.rules.specs.Grammar.{signedBy}
use Rattle.laws.proofs.Fractions.{lowest-neg}
use Rattle.text_grammar.proofs.Values.{value-large, value-zero, value-under, value_there, lowest-good}
use Rattle.text_grammar.proofs.power_value.Goals as goal

pub returns-then-num-gt-TOP : goal.returns-then-num-gt-TOP
returns-then-num-gt-TOP c = let a = c.args in sym (value-large a.minus a.num a.den c.if-num-gt-TOP.true)

pub returns-then-den-lt1 : goal.returns-then-den-lt1
returns-then-den-lt1 c = let a = c.args in sym (value-zero a.minus a.num a.den c.if-den-lt1.true)

pub returns-then-den-gt-TOP : goal.returns-then-den-gt-TOP
returns-then-den-gt-TOP c = let a = c.args in sym (value-under a.minus a.num a.den c.if-den-gt-TOP.true)

pub negative_of-requires : goal.negative_of-requires
negative_of-requires c = ap goodExp c.lowest_of-e.ensures ∙ lowest-good _ _ (omega arith) (omega arith) (omega arith)

pub returns-then-minus : goal.returns-then-minus
returns-then-minus c =
    let a = c.args in
    ap got (c.negative_of.ensures ∙ ap neg c.lowest_of-e.ensures ∙ sym (lowest-neg (pos a.num) a.den)
    ∙ ap (λ (m : Bool). lowest (signedBy m a.num) a.den) (sym c.if-minus.true))
    ∙ sym (value_there a.minus a.num a.den (omega arith) (omega arith) (omega arith))

pub returns : goal.returns
returns c =
    let a = c.args in
    ap got (c.lowest_of-e.ensures ∙ ap (λ (m : Bool). lowest (signedBy m a.num) a.den) (sym c.if-minus.false))
    ∙ sym (value_there a.minus a.num a.den (omega arith) (omega arith) (omega arith))
