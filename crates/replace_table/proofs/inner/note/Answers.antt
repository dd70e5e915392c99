-- `inner::note` meets its contract.
use mathlib.Core.Path.{◌≡◌, sym, ap, ◌∙◌}
use Prim.Native.Nat.{ℕ, ◌+◌}
use lib.ListN.{get_or, set}
use Rattle.records.specs.declared.View.TheVariants as view
use Rattle.replace_table.proofs.Filling.{noted-first, noted-before}
use Rattle.replace_table.proofs.inner.note.Goals as goal

pub returns-then-word_at-eq0 : goal.returns-then-word_at-eq0
returns-then-word_at-eq0 c = λ y h.
    let a = c.args in
    let q : view.Binding c.in-Binding.y ≡ view.Binding y = sym c.in-Binding.is ∙ (c.view_at.ensures ∙ h) in
    let z : c.in-Binding.y ≡ y = cc in
    noted-first a.places.now _ y (a.at + 2) (ap (λ (k : ℕ). get_or a.places.now k 0) (sym z) ∙ sym c.word_at.ensures ∙ c.if-word_at-eq0.true)
    (c.put.ensures ∙ ap (λ (k : ℕ). set a.places.now k (a.at + 2)) z)

pub returns-else-word_at-eq0 : goal.returns-else-word_at-eq0
returns-else-word_at-eq0 c = λ y h.
    let a = c.args in
    let q : view.Binding c.in-Binding.y ≡ view.Binding y = sym c.in-Binding.is ∙ (c.view_at.ensures ∙ h) in
    let z : c.in-Binding.y ≡ y = cc in
    noted-before a.places.now y (a.at + 2) (λ w. c.if-word_at-eq0.false (c.word_at.ensures ∙ ap (λ (k : ℕ). get_or a.places.now k 0) z ∙ w))

pub returns-in_default : goal.returns-in_default
returns-in_default c = λ y h. absurd (c.in_default.not-Binding y (c.view_at.ensures ∙ h))
