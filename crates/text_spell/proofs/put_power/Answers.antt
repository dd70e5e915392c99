-- `put_power` meets its contract.
use Rattle.std.proofs.Common.{◌≡◌, false, sym, ap, ◌∙◌}
use Rattle.rules.specs.Base.{is_yes}
use Rattle.rules.specs.Exponents.{Exp, one, Exp-dec, frac}
use Rattle.rules.specs.Writing.{signed}
use Rattle.text_spell.proofs.Sinks.{then}
use Rattle.text_spell.proofs.Names.{some_power}
use Rattle.text_spell.proofs.put_power.Goals as goal

pub returns : goal.returns
returns g c =
    let e : is_yes (Exp-dec (frac (signed c.args.b) c.args.d) one) ≡ false =
    ap (λ (c : Exp). is_yes (Exp-dec c one)) (sym c.from_words.ensures) ∙ sym c.is_one.ensures ∙ c.if-is_one.false in
    rw (some_power (signed c.args.b) c.args.d e)
    (then _ c.in_ok-put.ensures (then _ c.in_ok-put_numerator.ensures (then _ c.in_ok-put_denominator.ensures c.put-2.ensures)))
