-- `inner::bounds::name_of` meets its contract.
use mathlib.Core.Path.{◌≡◌, sym, ap, ◌∙◌}
use Rattle.rules.specs.Writing.{word_of}
use Rattle.records.specs.Holds.{openOf, viewOpen}
use Rattle.records.specs.declared.View.TheVariants as view
use Rattle.records.specs.ByView.{open-back}
use Rattle.judge_proposals.proofs.inner.bounds.name_of.Goals as goal

pub returns-in-Bound : goal.returns-in-Bound
returns-in-Bound c = λ o h.
    let q : view.Bound c.in-Bound.o ≡ view.Bound (viewOpen o) = sym c.in-Bound.is ∙ (c.view_at.ensures ∙ h.0) in
    let z : c.in-Bound.o ≡ viewOpen o = cc in
    c.number.ensures ∙ ap (λ p. word_of (openOf p)) z ∙ ap word_of (open-back o)

pub returns-in_default : goal.returns-in_default
returns-in_default c = λ o h. absurd (c.in_default.not-Bound (viewOpen o) (c.view_at.ensures ∙ h.0))
