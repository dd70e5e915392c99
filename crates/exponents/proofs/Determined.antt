-- The contracts leave no choice: two results that one of them allows coincide (`..determined`), and each answer has the number that the
-- rules give to its outcome (`numbered`). The other public functions of this crate say `r ≡ ..` of the result itself.
use Rattle.std.specs.Prelude.{◌≡◌, Result}
use Rattle.std.proofs.Math.Path.{ap}
use Rattle.std.proofs.Common.{sym, ◌∙◌}
use Rattle.rules.specs.Exponents.{Exp}
use Rattle.rules.specs.Numbers.{power, refusalIn, number}
use Rattle.rules.specs.Refusals.{toldBy, numberAnswer}
use Rattle.rules.specs.declared.Refusal.{Refusal}
use Rattle.rules.specs.Base.{Got}
use Rattle.laws.proofs.Numbers.{toldBy-injective, answer-in-by}
use Rattle.exponents.specs.declared.Exponent.{Exponent}
use Rattle.exponents.specs.Answers.{expOf}

pub exp-injective : (a b : Exponent) → expOf a ≡ expOf b → a ≡ b
exp-injective a b e =
    let n : a.num ≡ b.num = cc in
    let d : a.den ≡ b.den = cc in
    λ i. record { num = n i; den = d i }

-- `add`, `multiply`, `divide` and `negate`, whose clauses say `toldBy expOf r ≡ g`
module _ (g : Got Exp) (p : Result Exponent Refusal) (h : toldBy expOf p ≡ g) where
  pub determined : (q : Result Exponent Refusal) → toldBy expOf q ≡ g → p ≡ q
  determined q k = toldBy-injective expOf exp-injective p q (h ∙ sym k)

  pub numbered : numberAnswer p ≡ number (power g)
  unfolding number
  numbered = answer-in-by expOf p ∙ ap refusalIn h
