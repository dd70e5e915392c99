-- `inner::enter_power` meets its contract.
use mathlib.Core.Path.{sym, ap, ◌∙◌}
use Rattle.rules.specs.Exponents.{goodExp}
use Rattle.exponents.specs.Answers.{expOf}
use Rattle.exponents.specs.declared.Exponent.{Exponent}
use Rattle.text_dimensions.proofs.Powers.{told-good, unit-good, power-done, no_power}
use Rattle.text_dimensions.proofs.inner.enter_power.Goals as goal

pub returns-then-next_is : goal.returns-then-next_is
returns-then-next_is c = (
  ap (λ (e : Exponent). goodExp (expOf e)) c.exp_in.ensures
      ∙ told-good c.power_value-v.result c.read_power-e.result.minus c.read_power-e.result.num c.read_power-e.result.den c.power_value-v.ensures,
  λ pool table dst ready. power-done dst ready _ c.power_value-v.result (sym c.if-next_is.true ∙ c.next_is.ensures) c.next_sign-c.ensures c.read_power-e.ensures
      c.power_value-v.ensures c.place_of.ensures c.power_stand-stand.ensures c.exp_in.ensures,
)

pub returns : goal.returns
returns c =
    (unit-good, λ pool table dst ready. no_power dst ready (sym c.if-next_is.false ∙ c.next_is.ensures))
