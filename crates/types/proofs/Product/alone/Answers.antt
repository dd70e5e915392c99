use Rattle.std.proofs.Common.{sym, ap, ◌∙◌}
use Rattle.rules.specs.Base.{is_yes}
use Rattle.rules.specs.Exponents.{Exp, Exp-dec, one}
use Rattle.types.proofs.Alone.{lone, not-lone, not-one, alone-var, alone-quant, alone-par, alone-base}
use Rattle.types.proofs.Product.alone.Goals as goal

pub returns-then-self-ne1 : goal.returns-then-self-ne1
returns-then-self-ne1 c = let p = c.args.self in not-lone p.factors.0 (λ e. c.if-self-ne1.true (sym p.factors.1.many ∙ e))

pub returns-then-not-is_one : goal.returns-then-not-is_one
returns-then-not-is_one c =
    let p = c.args.self in
    not-one c.in-Some.f (ap (λ (e : Exp). is_yes (Exp-dec e one)) (sym c.from_words.ensures) ∙ sym c.is_one.ensures ∙ c.if-not-is_one.true)
    ∙ lone _ c.in-Some.ensures (p.factors.1.many ∙ c.if-self-ne1.false)

pub returns-in-Var : goal.returns-in-Var
returns-in-Var c =
    let p = c.args.self in
    alone-var c.in-Some.f c.in-Free.is c.in-Var.is
    (ap (λ (e : Exp). is_yes (Exp-dec e one)) (sym c.from_words.ensures) ∙ sym c.is_one.ensures ∙ c.if-not-is_one.false)
    ∙ lone _ c.in-Some.ensures (p.factors.1.many ∙ c.if-self-ne1.false)

pub returns-in-Quant : goal.returns-in-Quant
returns-in-Quant c =
    let p = c.args.self in
    alone-quant c.in-Some.f c.in-Free.is c.in-Quant.is
    (ap (λ (e : Exp). is_yes (Exp-dec e one)) (sym c.from_words.ensures) ∙ sym c.is_one.ensures ∙ c.if-not-is_one.false)
    ∙ lone _ c.in-Some.ensures (p.factors.1.many ∙ c.if-self-ne1.false)

pub returns-in-Par : goal.returns-in-Par
returns-in-Par c = let p = c.args.self in alone-par c.in-Some.f c.in-Free.is c.in-Par.is ∙ lone _ c.in-Some.ensures (p.factors.1.many ∙ c.if-self-ne1.false)

pub returns-in-Base : goal.returns-in-Base
returns-in-Base c = let p = c.args.self in alone-base c.in-Some.f c.in-Base.is ∙ lone _ c.in-Some.ensures (p.factors.1.many ∙ c.if-self-ne1.false)
