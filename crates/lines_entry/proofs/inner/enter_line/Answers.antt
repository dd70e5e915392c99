-- `enter_line` meets its contract.
use mathlib.Core.Path.{sym, ap, ◌∙◌}
use mathlib.Core.Bool.{Bool}
use Rattle.rules.specs.Base.{need}
use Rattle.rules.specs.Refusals.{toldBy}
use Rattle.std.proofs.lemmas.Result.{err_from_is_err_and}
use Rattle.lines_entry.specs.Told.{stepsOf}
use Rattle.lines_entry.proofs.Entered.{enter-long, enter-refused, enter-form, enter-used, enter-unheld, enter-all, its-short}
use Rattle.lines_entry.proofs.inner.enter_line.Goals as goal

pub returns-then-not-short : goal.returns-then-not-short
returns-then-not-short c = enter-long _ _ _ _ c.args.names (ap (λ (b : Bool). need b 8) (sym c.if-not-short.true) ∙ c.short.ensures)

pub returns-in_err-names : goal.returns-in_err-names
returns-in_err-names c =
    let p = err_from_is_err_and c.from_residual.result c.from_residual.ensures.1 in
    rw (p.1, p.2, c.in_err-names.was) (enter-refused _ _ _ _ (ap (λ (b : Bool). need b 8) (sym c.if-not-short.false) ∙ c.short.ensures) _)

pub read_steps-requires : goal.read_steps-requires
read_steps-requires c =
    let h = its-short _ _ _ _ (sym c.short.ensures ∙ ap (λ (b : Bool). need b 8) c.if-not-short.false) in
    record { short = h.0; few = h.1 }

pub returns-in_err-steps : goal.returns-in_err-steps
returns-in_err-steps c =
    let p = err_from_is_err_and c.from_residual-in_err-steps.result c.from_residual-in_err-steps.ensures.1 in
    rw (p.1, p.2, c.in_ok-names.was) (enter-form _ _ _ _ (ap (λ (b : Bool). need b 8) (sym c.if-not-short.false) ∙ c.short.ensures) c.in_ok-names.names _
    (sym c.read_steps.ensures ∙ ap (toldBy stepsOf) c.in_err-steps.was))

pub returns-then-not-is_fresh : goal.returns-then-not-is_fresh
returns-then-not-is_fresh c = rw c.in_ok-names.was
    (enter-used _ _ _ _ (ap (λ (b : Bool). need b 8) (sym c.if-not-short.false) ∙ c.short.ensures) c.in_ok-names.names _
    (sym c.read_steps.ensures ∙ ap (toldBy stepsOf) c.in_ok-steps.was)
    (sym c.is_fresh.ensures ∙ c.if-not-is_fresh.true))

pub returns-then-not-all_held : goal.returns-then-not-all_held
returns-then-not-all_held c = rw c.in_ok-names.was
    (enter-unheld _ _ _ _ (ap (λ (b : Bool). need b 8) (sym c.if-not-short.false) ∙ c.short.ensures) c.in_ok-names.names _
    (sym c.read_steps.ensures ∙ ap (toldBy stepsOf) c.in_ok-steps.was)
    (sym c.is_fresh.ensures ∙ c.if-not-is_fresh.false) (sym c.all_held.ensures ∙ c.if-not-all_held.true))

pub returns : goal.returns
returns c = rw c.in_ok-names.was
    (enter-all _ _ _ _ (ap (λ (b : Bool). need b 8) (sym c.if-not-short.false) ∙ c.short.ensures) c.in_ok-names.names _
    (sym c.read_steps.ensures ∙ ap (toldBy stepsOf) c.in_ok-steps.was)
    (sym c.is_fresh.ensures ∙ c.if-not-is_fresh.false) (sym c.all_held.ensures ∙ c.if-not-all_held.false))
